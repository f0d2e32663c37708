use lib.Seq.{take_all}
use Prim.Native.Nat.{◌-◌}
use lib.ListN.{length, drop, length-drop, drop_of_length-le}
use mathlib.Core.Path.{sym}
use native.Mathlib.Omega.{arith}
use Rattle.tape.proofs.script.rest.Goals as goal

pub returns-then-used-script : goal.returns-then-used-script
returns-then-used-script c = let a = c.args in
    let whole = take_all (length a.script.now - a.used) (drop a.used a.script.now) (rw length-drop (omega arith)) in
    record { part = record { part = whole }; fits = rw (whole, length-drop) (omega arith) }

pub returns-else-used-script : goal.returns-else-used-script
returns-else-used-script c = let a = c.args in
    record { part = record { part = sym (drop_of_length-le a.script.now {i = a.used} (omega arith)) }; fits = omega arith }

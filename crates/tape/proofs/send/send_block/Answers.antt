use native.Mathlib.Omega.{arith}
use lib.ListN.{length}
use Prim.Native.Nat.{◌-◌, ◌/◌}
use mathlib.Core.Path.{◌≡◌, sym}
use Rattle.types.specs.Words.{words_of}
use Rattle.tape.specs.Layout.{rows_in}
use Rattle.tape.proofs.Layouts.{rows_long}
use Rattle.tape.proofs.Sending.{sent-all, sent-full}
use Rattle.tape.proofs.Took.{took}
use Rattle.tape.proofs.send.send_block.Goals as goal

pub returns-then-left-count : goal.returns-then-left-count
returns-then-left-count c = let h = c.args.head.now in
    let l = c.args.rows.now in
    let bytes = c.args.bytes.now in
    let left : length (rows_in l) - h.rows ≡ c.saturating_sub-left.result = rw (rows_long l) (sym c.saturating_sub-left.ensures) in
    λ s. took (rw c.lay.ensures (rw left at (sym (sent-full s (words_of bytes) h.used h.line 0 (length bytes / 4) h.rows (rows_in l) (rw left (omega arith))))))

pub returns : goal.returns
returns c = let h = c.args.head.now in
    let l = c.args.rows.now in
    let bytes = c.args.bytes.now in
    let left = rows_long l in
    λ s. took (rw c.lay-2.ensures (sym (sent-all s (words_of bytes) h.used h.line 0 (length bytes / 4) h.rows (rows_in l) (rw left (omega (arith, c.saturating_sub-left.ensures))))))

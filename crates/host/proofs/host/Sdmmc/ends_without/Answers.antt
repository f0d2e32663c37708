use Rattle.host.proofs.host.Sdmmc.ends_without.Goals as goal
use mathlib.Core.Path.{◌≡◌}
use Rattle.tape.specs.Pace.{Stopped}
use Rattle.tape.specs.Run.{at, stand}
use Rattle.host.specs.Calls.{dropped}

pub returns : goal.returns
returns c = λ accepted words l.
    let none : c.with-none.result ≡ dropped c.args.self (at (stand (Stopped c.args.halt) c.args.head) l) = rw c.no_card.ensures at c.with-none.ensures in
    rw none at (c.ends.ensures accepted words l)

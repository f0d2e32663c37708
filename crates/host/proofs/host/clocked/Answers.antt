use mathlib.Core.Bool.{false}
use mathlib.Core.Path.{◌≡◌, sym, ◌∙◌}
use Rattle.types.specs.Leaf.{clock_of}
use Rattle.host.specs.Calls.{clocked_host}
use Rattle.host.proofs.host.clocked.Goals as goal

pub returns-in-Ok : goal.returns-in-Ok
unfolding clocked_host
returns-in-Ok c = let told : c.clock_setting-answer.result ≡ clock_of c.args.settings.source.0 400_000 false = c.clock_setting-answer.ensures in
    rw (sym told ∙ c.in-Ok.is, c.fresh_line.ensures, c.no_card.ensures)

pub returns-in-Err : goal.returns-in-Err
unfolding clocked_host
returns-in-Err c = rw (sym c.clock_setting-answer.ensures ∙ c.in-Err.is, c.no_host.ensures)

use mathlib.Core.Path.{sym, ◌∙◌}
use Rattle.host.specs.Calls.{judged_host, made}
use Rattle.host.proofs.host.Sdmmc.new.Goals as goal

pub returns-in-Ok : goal.returns-in-Ok
unfolding made judged_host
returns-in-Ok c = rw (sym c.judge-answer.ensures ∙ c.in-Ok.is) c.clocked.ensures

pub returns-in-Err : goal.returns-in-Err
unfolding made judged_host
returns-in-Err c = rw (sym c.judge-answer.ensures ∙ c.in-Err.is, c.no_host.ensures)

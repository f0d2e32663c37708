use mathlib.Core.Path.{refl, ap}
use Rattle.types.specs.Answer.{answer_told}
use Rattle.types.specs.Settings.{made_of}
use Rattle.host.specs.declared.host.Made.{Made}
use Rattle.host.specs.Calls.{judged_host, made}
use Rattle.bench.proofs.trace.open_bad.Goals as goal

pub returns : goal.returns
unfolding answer_told made judged_host made_of
returns c = record {
  opened = record { host = ap (λ (m : Made). m.host) c.new-none.ensures; calls = refl; words = refl; place = refl };
  printed = rw c.number.ensures at c.put_host.ensures;
}

use mathlib.Core.Path.{ap, sym, ◌∙◌}
use Rattle.host.specs.Calls.{Came, called_of}
use Rattle.host.proofs.Ran.{status-read}
use Rattle.feed.proofs.Whole.{status-call}
use mathlib.Core.List.{[]}
use Rattle.feed.specs.Turns.{lent}
use Rattle.feed.proofs.Fed as F
use Rattle.feed.proofs.feed.read_sd_status.Goals as goal

pub returns : goal.returns
returns c = let whole = F.fed-whole _ _ _ _ _ (c.read_sd_status.ensures (lent _ [])) ∙ sym (status-call _ _ _) in
    record { answered = status-read _ _ _ c.feed-fed.result.called _ (c.feed-fed.ensures.answered ∙ ap called_of whole) c.given_status-status.ensures; listed = c.feed-fed.ensures.listed ∙ ap (λ (x : Came). x.list) whole }

use mathlib.Core.Path.{ap, sym, ◌∙◌}
use Rattle.host.specs.Calls.{Came, called_of}
use Rattle.feed.proofs.Whole.{init-call}
use mathlib.Core.List.{[]}
use Rattle.feed.specs.Turns.{lent}
use Rattle.feed.proofs.Fed as F
use Rattle.feed.proofs.feed.init_card.Goals as goal

pub returns : goal.returns
returns c = let whole = F.fed-whole _ _ _ _ _ (c.init_card.ensures (lent _ [])) ∙ sym (init-call _ _ _ _) in
    record { answered = c.feed-fed.ensures.answered ∙ ap called_of whole; listed = c.feed-fed.ensures.listed ∙ ap (λ (x : Came). x.list) whole }

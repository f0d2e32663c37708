use mathlib.Core.Path.{ap, sym, ◌∙◌}
use mathlib.Core.List.{[]}
use Rattle.types.specs.Words.{words_of}
use Rattle.bus.specs.Transfer.{outgoing}
use Rattle.host.specs.Calls.{Came, called_of}
use Rattle.feed.specs.Turns.{lent}
use Rattle.feed.proofs.Whole.{blocks-call}
use Rattle.feed.proofs.Fed as F
use Rattle.feed.proofs.feed.write_blocks.Goals as goal

pub returns : goal.returns
returns c = let sent = words_of c.args.data.now in
    let whole = F.fed-whole _ _ _ _ _ (c.write_blocks.ensures (lent sent [])) ∙ sym (blocks-call _ _ _ (outgoing sent) _ _) in
    record { answered = c.feed-fed.ensures.answered ∙ ap called_of whole; listed = c.feed-fed.ensures.listed ∙ ap (λ (x : Came). x.list) whole }

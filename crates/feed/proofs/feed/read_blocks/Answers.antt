use mathlib.Core.Path.{ap, sym, ◌∙◌}
use mathlib.Core.List.{List, []}
use Prim.Native.Nat.{ℕ}
use lib.ListN.{length, take, drop}
use Rattle.tape.specs.Layout.{rows_in}
use Rattle.bus.specs.Transfer.{incoming}
use Rattle.host.specs.Calls.{Came, called_of, blocks_filled, read_came}
use Rattle.host.specs.declared.host.Called.{Called}
use Rattle.feed.specs.Runs.{count_of}
use Rattle.feed.proofs.Whole.{blocks-call}
use Rattle.feed.proofs.Order.{read-took}
use Rattle.feed.specs.Turns.{lent}
use Rattle.feed.proofs.Fed as F
use Rattle.feed.proofs.feed.read_blocks.Goals as goal

pub returns : goal.returns
returns c = let a = c.args in
    let s = a.script.now in
    let buffer = a.buffer.now in
    let came = read_came a.host a.index (length buffer) s (rows_in a.rows.now) in
    let whole = F.fed-whole _ _ _ _ _ (c.read_blocks.ensures (lent _ [])) ∙ sym (blocks-call _ _ _ incoming _ _) in
    let place = c.feed-fed.ensures.placed ∙ F.place-whole _ _ _ _ _ (c.read_blocks.ensures (lent _ [])) in
    let told = c.feed-fed.ensures.answered ∙ ap called_of whole in
    let count = c.count.ensures ∙ ap (λ (x : Called). count_of x.answer (length buffer)) told in
    let words = c.part-words.ensures ∙ ap (λ (n : ℕ). take n (drop c.feed-fed.result.place s)) count
    ∙ ap (λ (n : ℕ). take (count_of came.answer (length buffer)) (drop n s)) place ∙ sym (read-took _ _ _ _ _) in
    record { answered = told; listed = c.feed-fed.ensures.listed ∙ ap (λ (x : Came). x.list) whole; filled = c.fill_blocks.ensures ∙ ap (λ (ws : List ℕ). blocks_filled ws buffer) words }

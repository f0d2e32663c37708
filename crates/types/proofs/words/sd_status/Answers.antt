use Rattle.std.proofs.Common.{◌≡◌, ℕ, zero, suc, ◌+◌, ◌-◌, ◌<◌, List, ◌∷◌, map, length, get_or, refl, ap, ◌∙◌, arith, rules}
use Rattle.std.specs.List.{range_with_len}
use Rattle.std.proofs.lemmas.List.FromFn.{fill_by_all}
use Rattle.types.specs.Words.{turned, counted, sd_status_of}
use Rattle.types.proofs.words.sd_status.Goals as goal

in_range : (a n : ℕ) → range_with_len a n ≡ counted a n
unfolding counted
in_range a zero = refl
in_range a (suc n) = ap (λ (l : List ℕ). a ∷ l) (in_range (a + 1) n)

pub returns : goal.returns
unfolding sd_status_of
returns c =
    let words = c.args.words in
    let each : (i : ℕ) → i < 16 → get_or c.map-status.result i 0 ≡ turned (get_or words i 0) = λ i h. let call = c.map-status.ensures.items.at i 0 0 h in search rules in
    let long : length c.map-status.result ≡ 16 = c.map-status.ensures.items.long in
    let at : ℕ → ℕ = λ i. turned (get_or words (15 - i) 0) in
    fill_by_all at c.reverse.new.self 16 0 (c.reverse.ensures.len ∙ long)
    (λ k h. rw (c.reverse.ensures.by_index k 0 (omega arith), long) (each (15 - k) (omega arith)))
    ∙ ap (map at) (in_range 0 16)

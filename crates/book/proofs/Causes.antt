-- Each cause makes words bad by itself; words that are not bad have none of them.
use Prim.Native.Nat.{ℕ, ◌*◌, ◌-◌, ◌≤◌, ◌<◌}
use mathlib.Core.Bool.{Bool, true, false, cond, not, ◌||◌}
use mathlib.Core.List.{List}
use mathlib.Core.Logic.{⊎_elim}
use mathlib.Core.Path.{◌≡◌, refl, sym, ◌∙◌}
use native.Mathlib.Omega.{arith}
use borrow.Author.Tests.{lt-ltb, le-ltb, eq-eqb, ne_eqb, eqb-true, ltb-false, not-false}
use lib.Dec.{eqb, ltb}
use lib.ListN.{length, get_or, drop}
use Rattle.text.proofs.Orders.{either}
use Rattle.book.specs.Layout.{data_count, count_of, contents_of, bad_row, bad_rows, body_words, bad_words}

pub or_true : (t : Bool) → t || true ≡ true
or_true true = refl
or_true false = refl

pub or_left : (s t : Bool) → s || t ≡ false → s ≡ false
or_left true t e = e
or_left false t e = refl

pub or_right : (s t : Bool) → s || t ≡ false → t ≡ false
or_right true true e = e
or_right true false e = refl
or_right false t e = e

module _ (ws : List ℕ) where
  pub too_long : 4096 < length ws → bad_words ws ≡ true
  unfolding bad_words
  too_long h = simp (lt-ltb _ _ h)

  pub cut_short : length ws < contents_of ws → bad_words ws ≡ true
  unfolding bad_words
  cut_short h = simp (lt-ltb _ _ h, or_true)

  pub over-flags : 3 < get_or ws 5 0 → bad_words ws ≡ true
  unfolding bad_words
  over-flags h = simp (lt-ltb _ _ h, or_true)

  pub over-attempts : 65535 < get_or ws 2 0 → bad_words ws ≡ true
  unfolding bad_words
  over-attempts h = simp (lt-ltb _ _ h, or_true)

  pub no_calls : count_of ws ≡ 0 → bad_words ws ≡ true
  unfolding bad_words
  no_calls h = simp (eq-eqb _ _ h, or_true)

  pub over-calls : 64 < count_of ws → bad_words ws ≡ true
  unfolding bad_words
  over-calls h = simp (lt-ltb _ _ h, or_true)

  pub bad-row : bad_rows (count_of ws) (drop 7 ws) ≡ true → bad_words ws ≡ true
  unfolding bad_words
  bad-row h = simp (h, or_true)

  pub fills : length ws ≤ 4096 → contents_of ws ≤ length ws → get_or ws 5 0 ≤ 3 → get_or ws 2 0 ≤ 65535 → 0 < count_of ws → count_of ws ≤ 64 → bad_rows (count_of ws) (drop 7 ws) ≡ false → bad_words ws ≡ not (eqb (body_words (count_of ws) (drop 7 ws)) (length ws - contents_of ws))
  unfolding bad_words
  fills long short flags attempts some most rows =
      simp (
        le-ltb _ _ long,
        le-ltb _ _ short,
        le-ltb _ _ flags,
        le-ltb _ _ attempts,
        ne_eqb (count_of ws) 0 (λ e. omega arith),
        le-ltb _ _ most,
        rows,
      )

  clash : {A : Type 0} → bad_words ws ≡ true → bad_words ws ≡ false → A
  clash bad good =
      let z : ◌≡◌ {A = ℕ} 0 1 = cc in
      absurd (omega arith)

  unless : (a b : ℕ) → bad_words ws ≡ false → (b < a → bad_words ws ≡ true) → a ≤ b
  unless a b good bad = ⊎_elim (λ (h : a ≤ b). h) (λ (h : b < a). clash (bad h) good) (either a b)

  rows-good : (t : Bool) → bad_words ws ≡ false → (t ≡ true → bad_words ws ≡ true) → t ≡ false
  rows-good true good bad = clash (bad refl) good
  rows-good false good bad = refl

-- what words that are not bad fulfil
pub record Good (ws : List ℕ) : Type 0 where
  pub long : length ws ≤ 4096
  pub short : contents_of ws ≤ length ws
  pub flags : get_or ws 5 0 ≤ 3
  pub attempts : get_or ws 2 0 ≤ 65535
  pub least : 0 < count_of ws
  pub most : count_of ws ≤ 64
  pub rows : bad_rows (count_of ws) (drop 7 ws) ≡ false
  pub filled : body_words (count_of ws) (drop 7 ws) ≡ length ws - contents_of ws

pub good-words : (ws : List ℕ) → bad_words ws ≡ false → Good ws
good-words ws e =
    let long = unless ws _ _ e (too_long ws) in
    let short = unless ws _ _ e (cut_short ws) in
    let flags = unless ws _ _ e (over-flags ws) in
    let attempts = unless ws _ _ e (over-attempts ws) in
    let least : 0 < count_of ws = unless ws 1 (count_of ws) e (λ h. no_calls ws (omega arith)) in
    let most = unless ws _ _ e (over-calls ws) in
    let rows = rows-good ws _ e (bad-row ws) in
    record {
      long = long;
      short = short;
      flags = flags;
      attempts = attempts;
      least = least;
      most = most;
      rows = rows;
      filled = eqb-true _ _ (not-false _ (sym (fills ws long short flags attempts least most rows) ∙ e));
    }

-- what a row that is not bad fulfils: at most 16 blocks, and a body that holds the data words
module _ (kind a b len : ℕ) (good : bad_row kind a b len ≡ false) where
  zero : (e : Bool) → eqb b 0 ≡ e → not e ≡ false → b ≤ 16
  zero true e n = let none = eqb-true b 0 e in omega arith
  zero false e n = let z : ◌≡◌ {A = ℕ} 0 1 = cc in absurd (omega arith)

  pub few-blocks : b ≤ 16
  unfolding bad_row
  few-blocks = by (eqb kind 1) (eqb kind 2) (eqb kind 3) (eqb kind 4) good
    where
      by : (one two three four : Bool)
          → cond one (not (eqb b 0))
          (cond two (ltb 16 b) (cond three (not (eqb a 0) || not (eqb b 0)) (cond four (ltb 16 b || ltb len (128 * b)) true))) ≡ false
          → b ≤ 16
      by true two three four e = zero (eqb b 0) refl e
      by false true three four e = ltb-false 16 b e
      by false false true four e = zero (eqb b 0) refl (or_right (not (eqb a 0)) (not (eqb b 0)) e)
      by false false false true e = ltb-false 16 b (or_left (ltb 16 b) (ltb len (128 * b)) e)
      by false false false false e = let z : ◌≡◌ {A = ℕ} 0 1 = cc in absurd (omega arith)

  long_body : kind ≡ 4 → 128 * b ≤ len
  unfolding bad_row
  long_body four = ltb-false len (128 * b) (or_right (ltb 16 b) (ltb len (128 * b)) (rw four at good))

  pub data_within : data_count kind b ≤ len
  unfolding data_count
  data_within = by (eqb kind 4) refl
    where
      by : (four : Bool) → eqb kind 4 ≡ four → cond four (128 * b) 0 ≤ len
      by true e = long_body (eqb-true kind 4 e)
      by false e = omega arith

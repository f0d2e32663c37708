-- What `io::decimal` and `io::hex` print of a word reads back as that word.
use Prim.Native.Nat.{ℕ, zero, suc, ◌+◌, ◌/◌, ◌%◌, ◌^◌, ◌<◌, ◌≤◌}
use mathlib.Core.Bool.{Bool, true, false, cond, not, ◌&&◌}
use mathlib.Core.List.{List, [], ◌∷◌, ◌++◌, append_assoc, append-nil}
use mathlib.Core.Path.{◌≡◌, refl, ap, sym, ◌∙◌}
use native.Mathlib.Nat.{add-zero, div-add-mod', mod-lt, pow-suc}
use native.Mathlib.Omega.{arith}
use lib.Dec.{eqb}
use lib.ListN.{length, length-append}
use borrow.Author.Tests.{lt-ltb, lt-leb, eqb-true, eqb-false, not-true}
use Rattle.io.specs.Digits.{last_digits, hex_digit_ascii}
use Rattle.std.specs.Prelude.{Option, None, Some, Ok}
use Rattle.wordtext.specs.declared.token.Token.{Token}
use Rattle.wordtext.specs.declared.token.Token.TheVariants as T
use Rattle.wordtext.specs.Token.{LIMIT, HASH, word_of, ends_at, digit_of, with_digit, decimal_of, gone_on, opened, closed, after, completed, began_at}
use Rattle.wordtext.specs.Text.{State, at_first, taken, step, scan, read_of, answer_of}
use Rattle.wordtext.proofs.Tests.{both}

-- what holds of every number below n, computed
abbrev all : ℕ → (ℕ → Bool) → Bool
all zero p = true
all (suc n) p = p n && all n p

below : (n : ℕ) (p : ℕ → Bool) → all n p ≡ true → (d : ℕ) → d < n → p d ≡ true
below zero p h d l = absurd (omega arith)
below (suc n) p h d l = by (λ m. below n p (both (p n) (all n p) h).1 d m) (eqb d n) refl
  where
    by : (d < n → p d ≡ true) → (t : Bool) → eqb d n ≡ t → p d ≡ true
    by under true e = ap p (eqb-true d n e) ∙ (both (p n) (all n p) h).0
    by under false e =
        let other : d ≡ n → ⊥ = eqb-false d n e in
        under (omega (arith, other))

is : ℕ → Option ℕ → Bool
is d None = false
is d (Some value) = eqb value d

is-some : (d : ℕ) (o : Option ℕ) → is d o ≡ true → o ≡ Some d
unfolding is
is-some d None e = cc
is-some d (Some value) e = ap Some (eqb-true value d e)

-- a printed digit has its value, ends no word, is no x, and is 0 only for 0
unfoldable fit : ℕ → Bool
fit d =
    is d (digit_of (hex_digit_ascii d))
    && (not (ends_at (hex_digit_ascii d)) && (not (eqb (hex_digit_ascii d) 120) && cond (eqb d 0) (eqb (hex_digit_ascii d) 48) (not (eqb (hex_digit_ascii d) 48))))

module _ (d : ℕ) (small : d < 16) where
  fits : fit d ≡ true
  unfolding fit is digit_of ends_at
  fits = below 16 fit refl d small

  valued : digit_of (hex_digit_ascii d) ≡ Some d
  unfolding fit
  valued = is-some _ _ (both (is d (digit_of (hex_digit_ascii d))) _ fits).0

  inside : ends_at (hex_digit_ascii d) ≡ false
  unfolding fit
  inside = not-true _ (both (not (ends_at (hex_digit_ascii d))) _ (both (is d (digit_of (hex_digit_ascii d))) _ fits).1).0

  rest : (not (eqb (hex_digit_ascii d) 120) && cond (eqb d 0) (eqb (hex_digit_ascii d) 48) (not (eqb (hex_digit_ascii d) 48))) ≡ true
  unfolding fit
  rest = (both (not (ends_at (hex_digit_ascii d))) _ (both (is d (digit_of (hex_digit_ascii d))) _ fits).1).1

  no_x : eqb (hex_digit_ascii d) 120 ≡ false
  no_x = not-true _ (both (not (eqb (hex_digit_ascii d) 120)) _ rest).0

  zero-only : (t : Bool) → eqb d 0 ≡ t → eqb (hex_digit_ascii d) 48 ≡ t
  zero-only true e = rw e at (both (not (eqb (hex_digit_ascii d) 120)) _ rest).1
  zero-only false e = not-true _ (rw e at (both (not (eqb (hex_digit_ascii d) 120)) _ rest).1)

-- the last digit of a word, behind all before it
last-digit : (base w : ℕ) → 0 < base → base ≤ 16 → w < 2 ^ 32 → with_digit base (w / base) (hex_digit_ascii (w % base)) ≡ Ok w
unfolding with_digit
last-digit base w some few h =
    let d = mod-lt w some in
    rw (valued (w % base) (omega arith), lt-leb base (w % base) d, div-add-mod' w base, lt-ltb w LIMIT (omega (arith, h)))

-- bytes one after the other, before the text's end
abbrev over : ℕ → ℕ → State → List ℕ → State
over room at s [] = s
over room at s (b ∷ bs) = over room (at + 1) (step room at s b) bs

scan-over : (room at : ℕ) (s : State) (xs ys : List ℕ) → scan room at s (xs ++ ys) ≡ scan room (at + length xs) (over room at s xs) ys
unfolding scan
scan-over room at s [] ys = ap (λ (n : ℕ). scan room n s ys) (sym (add-zero at))
scan-over room at s (x ∷ xs) ys =
    scan-over room (at + 1) (step room at s x) xs ys
    ∙ ap (λ (n : ℕ). scan room n (over room (at + 1) (step room at s x) xs) ys) (omega arith)

over-more : (room at : ℕ) (s : State) (xs : List ℕ) (b : ℕ) → over room at s (xs ++ b ∷ []) ≡ step room (at + length xs) (over room at s xs) b
over-more room at s [] b = ap (λ (n : ℕ). step room n s b) (sym (add-zero at))
over-more room at s (x ∷ xs) b =
    over-more room (at + 1) (step room at s x) xs b
    ∙ ap (λ (n : ℕ). step room n (over room (at + 1) (step room at s x) xs) b) (omega arith)

-- a byte that ends nothing leaves the words as they are
in_word : (room at : ℕ) (s : State) (b : ℕ) → ends_at b ≡ false
    → step room at s b ≡ record { token = gone_on s.token b; start = began_at s.token at s.start; words = s.words }
unfolding after completed taken
in_word room at s b e = rw e

-- a byte that ends a word gives it
ends-word : (room at : ℕ) (s : State) (b w : ℕ) (t : Token) → s.token ≡ t → word_of t ≡ Some w → closed t b ≡ opened b → began_at t at s.start ≡ s.start → ends_at b ≡ true → length s.words < room
    → step room at s b ≡ record { token = opened b; start = s.start; words = s.words ++ w ∷ [] }
unfolding after completed taken
ends-word room at s b w t is word close began e h = rw (e, is, word, close, began, lt-ltb _ _ h)

-- decimal: what is in hand after k + 1 digits
abbrev in_hand : ℕ → ℕ → Token
in_hand zero w = cond (eqb w 0) T.Zero (T.Decimal w)
in_hand (suc k) w = T.Decimal w

decimal_on : (k w : ℕ) → w < 2 ^ 32 → gone_on (in_hand k (w / 10)) (hex_digit_ascii (w % 10)) ≡ T.Decimal w
unfolding gone_on
decimal_on zero w h = by (eqb (w / 10) 0) refl
  where
    by : (t : Bool) → eqb (w / 10) 0 ≡ t → gone_on (cond t T.Zero (T.Decimal (w / 10))) (hex_digit_ascii (w % 10)) ≡ T.Decimal w
    by true e = rw (no_x (w % 10) (omega arith), sym (eqb-true (w / 10) 0 e), last-digit 10 w (omega arith) (omega arith) h)
    by false e = rw (last-digit 10 w (omega arith) (omega arith) h)
decimal_on (suc k) w h = rw (last-digit 10 w (omega arith) (omega arith) h)

began_hand : (k w at start : ℕ) → began_at (in_hand k w) at start ≡ start
unfolding began_at
began_hand zero w at start = by (eqb w 0)
  where
    by : (t : Bool) → began_at (cond t T.Zero (T.Decimal w)) at start ≡ start
    by true = refl
    by false = refl
began_hand (suc k) w at start = refl

word_hand : (k w : ℕ) → word_of (in_hand k w) ≡ Some w
word_hand zero w = by (eqb w 0) refl
  where
    by : (t : Bool) → eqb w 0 ≡ t → word_of (cond t T.Zero (T.Decimal w)) ≡ Some w
    by true e = ap Some (sym (eqb-true w 0 e))
    by false e = refl
word_hand (suc k) w = refl

closed_hand : (k w b : ℕ) → closed (in_hand k w) b ≡ opened b
unfolding closed
closed_hand zero w b = by (eqb w 0)
  where
    by : (t : Bool) → closed (cond t T.Zero (T.Decimal w)) b ≡ opened b
    by true = refl
    by false = refl
closed_hand (suc k) w b = refl

first-digit : (w : ℕ) → w < 10 → gone_on T.Nothing (hex_digit_ascii (w % 10)) ≡ in_hand 0 w
unfolding gone_on
first-digit w h = by (eqb w 0) refl
  where
    same : w % 10 ≡ w
    same = omega arith

    none : 0 ≡ w / 10
    none = omega arith

    by : (t : Bool) → eqb w 0 ≡ t → cond (eqb (hex_digit_ascii (w % 10)) 48) T.Zero (decimal_of 0 (hex_digit_ascii (w % 10))) ≡ cond t T.Zero (T.Decimal w)
    by true e = rw (same, zero-only w (omega arith) true e)
    by false e = rw (ap (λ (n : ℕ). eqb (hex_digit_ascii n) 48) same ∙ zero-only w (omega arith) false e, none, last-digit 10 w (omega arith) (omega arith) (omega arith))

decimal_held : (k room at w : ℕ) (s : State) → s.token ≡ T.Nothing → w < 10 ^ suc k → w < 2 ^ 32
    → over room at s (last_digits 10 (suc k) w) ≡ record { token = in_hand k w; start = at; words = s.words }
unfolding began_at
decimal_held zero room at w s is h fits = rw (in_word room at s (hex_digit_ascii (w % 10)) (inside (w % 10) (omega arith)), is, first-digit w (omega arith))
decimal_held (suc k) room at w s is h fits =
    let small : w / 10 < 10 ^ suc k = omega (arith, rw pow-suc at h) in
    rw (over-more room at s (last_digits 10 (suc k) (w / 10)) (hex_digit_ascii (w % 10)), decimal_held k room at (w / 10) s is small (omega arith))
    (rw (in_word room (at + length (last_digits 10 (suc k) (w / 10))) (record { token = in_hand k (w / 10); start = at; words = s.words }) (hex_digit_ascii (w % 10)) (inside (w % 10) (omega arith)), decimal_on k w fits, began_hand k (w / 10) (at + length (last_digits 10 (suc k) (w / 10))) at))

-- a word in hand, and the byte that ends it
ended : (room n : ℕ) (s : State) (b w : ℕ) (rest : List ℕ) → step room n s b ≡ record { token = opened b; start = s.start; words = s.words ++ w ∷ [] }
    → scan room n s (b ∷ rest) ≡ scan room (n + 1) (record { token = opened b; start = s.start; words = s.words ++ w ∷ [] }) rest
unfolding scan
ended room n s b w rest e = ap (λ (t : State). scan room (n + 1) t rest) e

-- From between two words: the k + 1 decimal digits of a word, and a byte that ends it, add that word. What follows is
-- read with nothing in hand, or as a comment where that byte is its sign
pub decimal_reads : (k room at w b : ℕ) (s : State) (rest : List ℕ) → s.token ≡ T.Nothing → length s.words < room
    → w < 10 ^ suc k → w < 2 ^ 32 → ends_at b ≡ true
    → scan room at s (last_digits 10 (suc k) w ++ b ∷ rest)
    ≡ scan room (at + length (last_digits 10 (suc k) w) + 1) (record { token = opened b; start = at; words = s.words ++ w ∷ [] }) rest
decimal_reads k room at w b s rest is h digit fits e =
    let n = at + length (last_digits 10 (suc k) w) in
    let held : State = record { token = in_hand k w; start = at; words = s.words } in
    scan-over room at s (last_digits 10 (suc k) w) (b ∷ rest)
    ∙ ap (λ (t : State). scan room n t (b ∷ rest)) (decimal_held k room at w s is digit fits)
    ∙ ended room n held b w rest (ends-word room n held b w (in_hand k w) refl (word_hand k w) (closed_hand k w b) (began_hand k w n at) e h)

-- hexadecimal: after 0x, the k + 1 digits
hex_held : (k room n w : ℕ) (s : State) → s.token ≡ T.Prefix → w < 16 ^ suc k → w < 2 ^ 32
    → over room n s (last_digits 16 (suc k) w) ≡ record { token = T.Hexadecimal w; start = s.start; words = s.words }
unfolding began_at gone_on
hex_held zero room n w s is h fits =
    let none : 0 ≡ w / 16 = omega arith in
    rw (in_word room n s (hex_digit_ascii (w % 16)) (inside (w % 16) (omega arith)), is, none, last-digit 16 w (omega arith) (omega arith) fits)
hex_held (suc k) room n w s is h fits =
    let small : w / 16 < 16 ^ suc k = omega (arith, rw pow-suc at h) in
    rw (over-more room n s (last_digits 16 (suc k) (w / 16)) (hex_digit_ascii (w % 16)), hex_held k room n (w / 16) s is small (omega arith))
    (rw (in_word room (n + length (last_digits 16 (suc k) (w / 16))) (record { token = T.Hexadecimal (w / 16); start = s.start; words = s.words }) (hex_digit_ascii (w % 16)) (inside (w % 16) (omega arith)), last-digit 16 w (omega arith) (omega arith) fits))

-- 0x itself
prefixed : (room at : ℕ) (s : State) (xs : List ℕ) → s.token ≡ T.Nothing
    → scan room at s (48 ∷ 120 ∷ xs) ≡ scan room (at + 2) (record { token = T.Prefix; start = at; words = s.words }) xs
unfolding scan after completed taken ends_at gone_on began_at
prefixed room at s xs is =
    let two : at + 1 + 1 ≡ at + 2 = omega arith in
    rw is (ap (λ (n : ℕ). scan room n (record { token = T.Prefix; start = at; words = s.words }) xs) two)

-- the same of `0x` and k + 1 hexadecimal digits
pub hexadecimal_reads : (k room at w b : ℕ) (s : State) (rest : List ℕ) → s.token ≡ T.Nothing → length s.words < room
    → w < 16 ^ suc k → w < 2 ^ 32 → ends_at b ≡ true
    → scan room at s (48 ∷ 120 ∷ (last_digits 16 (suc k) w ++ b ∷ rest))
    ≡ scan room (at + 2 + length (last_digits 16 (suc k) w) + 1) (record { token = opened b; start = at; words = s.words ++ w ∷ [] }) rest
unfolding closed began_at
hexadecimal_reads k room at w b s rest is h digit fits e =
    let n = at + 2 + length (last_digits 16 (suc k) w) in
    let begun : State = record { token = T.Prefix; start = at; words = s.words } in
    let held : State = record { token = T.Hexadecimal w; start = at; words = s.words } in
    prefixed room at s (last_digits 16 (suc k) w ++ b ∷ rest) is
    ∙ scan-over room (at + 2) begun (last_digits 16 (suc k) w) (b ∷ rest)
    ∙ ap (λ (t : State). scan room n t (b ∷ rest)) (hex_held k room (at + 2) w begun refl digit fits)
    ∙ ended room n held b w rest (ends-word room n held b w (T.Hexadecimal w) refl refl refl refl e h)

-- words that fit
abbrev Below : List ℕ → Type 0
Below [] = Unit {0}
Below (w ∷ ws) = (w < 2 ^ 32) × Below ws

-- Words printed one after the other, each in some number of digits that holds it, and each with a space or a comma, or
-- whatever else ends a word and is no comment, behind it
module _ (digitsLess1 : ℕ → ℕ) (holds : (w : ℕ) → w < 10 ^ suc (digitsLess1 w)) (b : ℕ) (ends : ends_at b ≡ true) (plain : eqb b HASH ≡ false) where
  abbrev printed : List ℕ → List ℕ
  printed [] = []
  printed (w ∷ ws) = last_digits 10 (suc (digitsLess1 w)) w ++ b ∷ printed ws

  -- from between two words, with room for them, they are read, and no other
  read_back : (room at : ℕ) (s : State) (ws : List ℕ) → Below ws → s.token ≡ T.Nothing → length s.words + length ws ≤ room
      → ((scan room at s (printed ws)).words ≡ s.words ++ ws) × ((scan room at s (printed ws)).token ≡ T.Nothing)
  unfolding scan after completed taken ends_at closed
  read_back room at s [] below is h = (rw is (sym (append-nil s.words)), rw is)
  read_back room at s (w ∷ ws) below is h =
      let n = at + length (last_digits 10 (suc (digitsLess1 w)) w) + 1 in
      let next : State = record { token = opened b; start = at; words = s.words ++ w ∷ [] } in
      let one = decimal_reads (digitsLess1 w) room at w b s (printed ws) is (omega arith) (holds w) below.0 ends in
      let rest = read_back room n next ws below.1 (rw plain) (rw length-append (omega arith)) in
      (ap (λ (t : State). t.words) one ∙ rest.0 ∙ append_assoc s.words (w ∷ []) ws, ap (λ (t : State). t.token) one ∙ rest.1)

  -- so a printed book is a text of exactly its words
  pub book-reads : (room : ℕ) (ws : List ℕ) → Below ws → length ws ≤ room
      → (answer_of room (printed ws) ≡ Ok (length ws)) × ((read_of room (printed ws)).words ≡ ws)
  unfolding read_of answer_of
  book-reads room ws below h =
      let all_of = read_back room 0 at_first ws below refl (omega arith) in
      (rw (all_of.1, all_of.0), all_of.0)

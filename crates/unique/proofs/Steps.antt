-- Steps of a call. Their contracts say what they do on every script, of which one is enough.
use Prim.Native.Nat.{ℕ}
use mathlib.Core.List.{List, []}
use mathlib.Core.Path.{◌≡◌, refl, ap, ◌∙◌}
use Rattle.std.specs.Prelude.{Result, Ok, Err}
use Rattle.tape.specs.declared.progress.Halt.{Halt}
use Rattle.tape.specs.declared.progress.Head.{Head}
use Rattle.tape.specs.declared.rows.Row.{Row}
use Rattle.tape.specs.Pace.{Pace, Going, Stopped}
use Rattle.tape.specs.Layout.{words_of, rows_in}
use Rattle.tape.specs.Plan.{Plan}
use Rattle.tape.specs.Run.{After, value_of, going_at, left_at, does, Behind, Took}
use Rattle.tape.proofs.Behind.{behind, is-behind}
use Rattle.tape.proofs.Layouts.{words-told}

-- A step's answer, and where it left the head, from what its plan comes to.

abbrev answer_at : {A : Type 0} → A → Pace → Result A Halt
answer_at v Going = Ok v
answer_at v (Stopped x) = Err x

abbrev pub answer_of : {A : Type 0} → After A → Result A Halt
answer_of x = answer_at x.value x.state.progress.pace

abbrev pub head_of : {A : Type 0} → After A → Head
head_of x = record { used = x.state.progress.used; rows = x.state.progress.rows; line = x.state.progress.line }

told-back : {A : Type 0} (d : A) (h : Head) (l : List Row) (r : Result A Halt) → r ≡ answer_of (record { value = value_of d r; state = left_at r h l })
told-back d h l (Ok v) = refl
told-back d h l (Err x) = refl

-- the list's words, from the rows that they tell
pub by-words : {Z : Type 0} {ws : List ℕ} {rs : List Row} {z z' : Z} → rows_in ws ≡ rs → z ≡ z' → ◌≡◌ {A = List ℕ × Z} (ws, z) (words_of rs, z')
by-words e f = λ i. (words-told e i, f i)

module _ {s : List ℕ} {A : Type 0} {d : A} {p : Plan A} {h h' : Head} {l l' : List Row} {r : Result A Halt} (e : Took s A d p h l r h' l') where
  pub left : h' ≡ head_of (does s d p (going_at h l))
  left = ap head_of e.gave.same

  pub rows-left : l' ≡ (does s d p (going_at h l)).state.list
  rows-left = ap (λ (x : After A). x.state.list) e.gave.same

  pub answer : r ≡ answer_of (does s d p (going_at h l))
  answer = told-back d h' l' r ∙ ap answer_of e.gave.same

-- of a step that leaves every row list as it is
pub answered : {s : List ℕ} {A : Type 0} {d : A} {p : Plan A} {h h' : Head} {l l' : List Row} {r : Result A Halt} → Took s A d p h l r h' l'
    → let x = does s d p (going_at h l) in ◌≡◌ {A = Head × Result A Halt} (h', r) (head_of x, answer_of x)
answered e = λ i. (left e i, answer e i)

-- of one that reads and writes
pub listed : {s : List ℕ} {A : Type 0} {d : A} {p : Plan A} {h h' : Head} {l : List Row} {ws : List ℕ} {r : Result A Halt} → Took s A d p h l r h' (rows_in ws)
    → let x = does s d p (going_at h l) in ◌≡◌ {A = Head × (List ℕ × Result A Halt)} (h', (ws, r)) (head_of x, (words_of x.state.list, answer_of x))
listed e = λ i. (left e i, by-words (rows-left e) (answer e) i)

-- what holds of every script of which the rest lies behind n words
pub on : {n : ℕ} {rest : List ℕ} {P : List ℕ → Type 0} → ((s : List ℕ) → Behind n rest s → P s) → P (behind n rest)
on {n} {rest} e = e (behind n rest) (is-behind n rest)

pub on-any : {n : ℕ} {rest : List ℕ} {P : List ℕ → List Row → Type 0} → ((s : List ℕ) (l : List Row) → Behind n rest s → P s l) → P (behind n rest) []
on-any {n} {rest} e = e (behind n rest) [] (is-behind n rest)

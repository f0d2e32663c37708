use Prim.Native.Nat.{ℕ, ◌+◌}
use mathlib.Core.Bool.{Bool, true, false}
use mathlib.Core.List.{List, [], ◌∷◌}
use mathlib.Core.Path.{◌≡◌, refl, ap, ◌∙◌}
use native.Mathlib.Omega.{arith}
use lib.Dec.{ltb}
use lib.ListN.{length, get_or}
use Rattle.std.specs.Prelude.{Result, Ok, Err}
use Rattle.tape.specs.declared.progress.Halt.{Halt}
use Rattle.tape.specs.declared.progress.Head.{Head}
use Rattle.tape.specs.declared.progress.Line.{Line}
use Rattle.tape.specs.declared.rows.Row.{Row}
use Rattle.tape.specs.Pace.{Pace, Going, Stopped}
use Rattle.tape.specs.Plan.{handle}
use Rattle.tape.specs.Run.{After, run, does_at, Behind, Took}
use Rattle.tape.specs.Steps.{word, data_from, data_words}
use Rattle.tape.proofs.Behind.{some-script}
use Rattle.tape.proofs.Took.{passed}
use Rattle.tape.proofs.Values.{gives_data, given}
use Rattle.bus.specs.Command.{zeros, response_words}
use Rattle.bus.proofs.command.take_words.Goals as goal

abbrev first_four : List ℕ → List ℕ
first_four ws = get_or ws 0 0 ∷ get_or ws 1 0 ∷ get_or ws 2 0 ∷ get_or ws 3 0 ∷ []

-- what four data words are as a response
abbrev response_at : Pace → List ℕ → List ℕ
response_at Going ws = first_four ws
response_at (Stopped x) ws = zeros

abbrev response_of : After (List ℕ) → After (List ℕ)
response_of x = record { value = response_at x.state.progress.pace x.value; state = x.state }

abbrev answered : Result (List ℕ) Halt → Result (List ℕ) Halt
answered (Ok ws) = Ok (first_four ws)
answered (Err x) = Err x

-- Four words in one go are four words one after the other, also where fewer are left.
in_one_go : (s : List ℕ) (u n : ℕ) (h : Line) (l : List Row) → response_of (run s [] (data_words 4) u n h l) ≡ run s zeros response_words u n h l
unfolding run handle word data_from response_words
in_one_go s u n h l =
    by (ltb u (length s)) refl (ltb (u + 1) (length s)) refl (ltb (u + 1 + 1) (length s)) refl (ltb (u + 1 + 1 + 1) (length s)) refl
  where
    by : (a : Bool) → ltb u (length s) ≡ a → (b : Bool) → ltb (u + 1) (length s) ≡ b → (c : Bool) → ltb (u + 1 + 1) (length s) ≡ c
        → (d : Bool) → ltb (u + 1 + 1 + 1) (length s) ≡ d
        → response_of (run s [] (data_words 4) u n h l) ≡ run s zeros response_words u n h l
    by false e b e₁ c e₂ d e₃ = rw e
    by true e false e₁ c e₂ d e₃ = rw (e, e₁)
    by true e true e₁ false e₂ d e₃ = rw (e, e₁, e₂)
    by true e true e₁ true e₂ false e₃ = rw (e, e₁, e₂, e₃)
    by true e true e₁ true e₂ true e₃ = rw (e, e₁, e₂, e₃)

responds : {s : List ℕ} {h h' : Head} {l l' : List Row} {r : Result (List ℕ) Halt}
    → Took s (List ℕ) [] (data_words 4) h l r h' l' → Took s (List ℕ) zeros response_words h l (answered r) h' l'
unfolding does_at
responds {s} {h} {h'} {l} {l'} {r = Ok ws} e = record { gave = record { same = ap response_of e.gave.same ∙ in_one_go s h.used h.rows h.line l } }
responds {s} {h} {h'} {l} {l'} {r = Err x} e = record { gave = record { same = ap response_of e.gave.same ∙ in_one_go s h.used h.rows h.line l } }

-- there are four
four : {n : ℕ} {rest ws : List ℕ} {h h' : Head} → ((s : List ℕ) (l : List Row) → Behind n rest s → Took s (List ℕ) [] (data_words 4) h l (Ok ws) h' l) → length ws ≡ 4
four {n} {rest} e = some-script n rest (λ s part. given (gives_data 0 4) (e s [] part).gave refl)

pub returns-in_err-words : goal.returns-in_err-words
returns-in_err-words c = λ s l part. passed c.from_residual.ensures.1 (responds (c.in_err-words.ensures.took s l part))

pub bounds-words-0 : goal.bounds-words-0
bounds-words-0 c = omega (arith, four c.in_ok-words.ensures.took)

pub bounds-words-1 : goal.bounds-words-1
bounds-words-1 c = omega (arith, four c.in_ok-words.ensures.took)

pub bounds-words-2 : goal.bounds-words-2
bounds-words-2 c = omega (arith, four c.in_ok-words.ensures.took)

pub bounds-words-3 : goal.bounds-words-3
bounds-words-3 c = omega (arith, four c.in_ok-words.ensures.took)

pub returns : goal.returns
returns c = λ s l part. responds (c.in_ok-words.ensures.took s l part)

-- What it is for a contract to allow one outcome. It is said of what the toolchain makes of a function: `Kinds` has its
-- parameters and its result, `Reads` what a caller learns of its contract. So nothing of a function is written here a second
-- time, and no lent slice can be left out.
use Rattle.std.specs.Prelude.{ℕ, ◌≡◌, List}
use contract.Lifetimes.{Lfts}
use denote.Triple.Clauses.{Lasts, at_exit}
use borrow.Fn.Kind.{ParamKind, ResultKind}
use borrow.Fn.Kinds.{Out, Dens, res_t, ended_of}

-- what a call with the arguments a leaves: its result, and the last value of each parameter, which is what a slice lent as
-- `&mut` holds at the end, and nothing of any other parameter
abbrev pub Outcome : {n : ℕ} (ps : List (ParamKind n)) (r : ResultKind n) (κs : Lfts n) → Dens κs ps → Type 0
Outcome {n} ps r κs a = (res_t r κs).Denot × Lasts (ended_of n ps r) κs a

-- the contract allows it
abbrev pub Allows : {n : ℕ} (ps : List (ParamKind n)) (r : ResultKind n) → Out n ps r → (κs : Lfts n) (a : Dens κs ps) → Outcome ps r κs a → Type 0
Allows {n} ps r Learnt κs a x = Learnt κs a x.0 (at_exit (ended_of n ps r) κs a x.1)

-- any two outcomes that the contract allows, of the same arguments, are equal in what is read off them. The arguments need not
-- be as the function requires
pub record UniqueIn {n : ℕ} (ps : List (ParamKind n)) (r : ResultKind n) (Learnt : Out n ps r)
    {X : (κs : Lfts n) → Dens κs ps → Type 0} (part : (κs : Lfts n) (a : Dens κs ps) → Outcome ps r κs a → X κs a) : Type 0 where
  pub same : (κs : Lfts n) (a : Dens κs ps) (x y : Outcome ps r κs a)
      → Allows ps r Learnt κs a x → Allows ps r Learnt κs a y → part κs a x ≡ part κs a y

-- THE STATEMENT of a function's line: they are equal in all
abbrev pub Unique : {n : ℕ} (ps : List (ParamKind n)) (r : ResultKind n) → Out n ps r → Type 0
Unique ps r Learnt = UniqueIn ps r Learnt {X = Outcome ps r} (λ κs a x. x)

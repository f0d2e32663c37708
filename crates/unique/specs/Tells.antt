-- What it is for a function's answers to be told by a rule: by number and values, as document 01 tells them. Like `Unique`, it
-- is said of what the toolchain makes of the function, so that it follows its contract.
use Rattle.std.specs.Prelude.{ℕ, List, ◌≡◌}
use contract.Lifetimes.{Lfts}
use borrow.Fn.Kind.{ParamKind, ResultKind}
use borrow.Fn.Kinds.{Out, Dens, res_t}
use Rattle.types.specs.Answer.{Told}
use Rattle.unique.specs.Unique.{Outcome, Allows}

-- whatever result the contract allows, of all arguments, what is told of it is what the rule says of the arguments
pub record Tells {n : ℕ} (ps : List (ParamKind n)) (r : ResultKind n) (Learnt : Out n ps r)
    (told : (κs : Lfts n) → (res_t r κs).Denot → Told) (rule : (κs : Lfts n) → Dens κs ps → Told) : Type 0 where
  pub says : (κs : Lfts n) (a : Dens κs ps) (x : Outcome ps r κs a) → Allows ps r Learnt κs a x → told κs x.0 ≡ rule κs a

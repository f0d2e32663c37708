-- A call as a plan: what it reads and writes, and how it goes on from each word that it is given. It looks at what the
-- host holds, and changes it, on its way: a refusal leaves what was held there.
use Rattle.std.specs.Prelude.{ℕ, zero, suc, Bool, cond}
use Rattle.types.specs.declared.error.Error.{Error}
use Rattle.types.specs.declared.error.Error.TheVariants as E
use Rattle.tape.specs.declared.progress.Line.{Line}
use Rattle.tape.specs.declared.rows.Row.{Row}
use Rattle.tape.specs.declared.script.Reading.{Reading}

-- a plan that gives nothing
abbrev pub Nothing : Type 0
Nothing = Unit {0}

-- why a plan is refused: an error of the driver, or no word left in the script
pub data Cause : Type 0 where
  failed : Error → Cause
  ended : Cause

-- `read` has how it goes on from the word, and how it goes on where there is none
pub data Plan (A : Type 0) : Type 0 where
  give : A → Plan A
  refuse : Cause → Plan A
  read : Reading → (ℕ → Plan A) → Plan A → Plan A
  write : Row → Plan A → Plan A
  look : (Line → Plan A) → Plan A
  hold : Line → Plan A → Plan A

-- p, and then f of what it gave or h of why it was refused. Every way of joining plans below is this one.
unfoldable pub handle : {A B : Type 0} → (A → Plan B) → (Cause → Plan B) → Plan A → Plan B
handle f h (give a) = f a
handle f h (refuse c) = h c
handle f h (read r k z) = read r (λ w. handle f h (k w)) (handle f h z)
handle f h (write r p) = write r (handle f h p)
handle f h (look k) = look (λ g. handle f h (k g))
handle f h (hold g p) = hold g (handle f h p)

infixl 20 ◌then◌
-- p, and then f of what p gave
abbrev pub ◌then◌ : {A B : Type 0} → Plan A → (A → Plan B) → Plan B
p then f = handle f refuse p

-- q, and then the value or the refusal that came before it
abbrev pub giving : {A : Type 0} → Plan Nothing → A → Plan A
giving q a = q then λ _. give a

abbrev pub refusing : {A : Type 0} → Plan Nothing → Cause → Plan A
refusing q c = q then λ _. refuse c

-- p, and q after it, also on its refusals: the clock gate
abbrev pub finally : {A : Type 0} → Plan Nothing → Plan A → Plan A
finally q p = handle (giving q) (refusing q) p

-- p, each of whose refusals does q first: the OnDrop guard
abbrev pub guard : {A : Type 0} → Plan Nothing → Plan A → Plan A
guard q p = handle give (refusing q) p

-- a refusal with an error of the driver
abbrev pub fail : {A : Type 0} → Error → Plan A
fail e = refuse (failed e)

-- a refusal, unless this holds
unfoldable pub ensure : Bool → Error → Plan Nothing
ensure b e = cond b (give tt) (fail e)

-- p, at most this many times, until what it gives is enough
unfoldable pub until : {A : Type 0} → ℕ → (A → Bool) → Plan A → Plan A
until zero enough p = fail E.SoftwareTimeout
until (suc n) enough p = p then λ v. cond (enough v) (give v) (until n enough p)

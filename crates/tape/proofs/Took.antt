-- The laws by which a step's proof is put together from what the steps that it calls answer.
use Prim.Native.Nat.{ℕ, ◌≤◌}
use mathlib.Core.Path.{◌≡◌, refl}
use mathlib.Core.Bool.{Bool, true, false, cond}
use mathlib.Core.List.{List, []}
use Rattle.std.specs.Prelude.{Result, Ok, Err, IsErrAnd}
use Rattle.types.specs.declared.error.Error.{Error}
use Rattle.tape.specs.declared.progress.Halt.{Halt}
use Rattle.tape.specs.declared.progress.Halt.TheVariants.{Refused}
use Rattle.tape.specs.declared.progress.Head.{Head}
use Rattle.tape.specs.declared.progress.Line.{Line}
use Rattle.tape.specs.declared.rows.Row.{Row}
use Rattle.tape.specs.Pace.{Stopped}
use Rattle.tape.specs.Plan.{Nothing, Cause, Plan, give, refuse, fail, look, handle, guard, refusing, ◌then◌}
use Rattle.tape.specs.Run.{at, halt_of, run, next_at, stand, value_of, left_at, seen_as, Behind, Settled, Took, Went}
use Rattle.tape.proofs.Behind.{some-script}
use Rattle.tape.proofs.Laws.{from-going, from-stopped, bind, looking, grows, dry, handled, guarded}

-- a step by itself: what its plan makes of the call
pub took : {s : List ℕ} {A : Type 0} {d : A} {p : Plan A} {h : Head} {l : List Row} {r : Result A Halt} {h' : Head} {l' : List Row}
    → record { value = value_of d r; state = left_at r h' l' } ≡ run s d p h.used h.rows h.line l → Took s A d p h l r h' l'
took e = record { gave = from-going refl e }

-- what is given, with nothing done
pub gives : {s : List ℕ} {A : Type 0} {d v : A} {h : Head} {l : List Row} → Took s A d (give v) h l (Ok v) h l
unfolding run
gives = took refl

pub refuses : {s : List ℕ} {A : Type 0} {d : A} {e : Error} {h : Head} {l : List Row} → Took s A d (fail e) h l (Err (Refused e)) h l
unfolding run
refuses = took refl

-- a step that gives a value, and then the next, which goes by it
pub carry : {s : List ℕ} {A B : Type 0} {d : A} {d' : B} {p : Plan A} (f : A → Plan B) {h h' h'' : Head} {l l' l'' : List Row} {v : A} {r : Result B Halt}
    → Took s A d p h l (Ok v) h' l' → Took s B d' (f v) h' l' r h'' l'' → Took s B d' (p then f) h l r h'' l''
carry f e g = record { gave = bind f e.gave g.gave }

-- a step that gives nothing, and then the next
pub next : {s : List ℕ} {B : Type 0} {d : B} {p : Plan Nothing} {q : Plan B} {h h' h'' : Head} {l l' l'' : List Row} {v : Nothing} {r : Result B Halt}
    → Went s p h l (Ok v) h' l' → Took s B d q h' l' r h'' l'' → Took s B d (p then λ _. q) h l r h'' l''
next {q = q} e g = carry (λ _. q) e g

-- an answer passed on by `?`
pub passed : {s : List ℕ} {A : Type 0} {d : A} {p : Plan A} {h h' : Head} {l l' : List Row} {x : Halt} {r : Result A Halt}
    → IsErrAnd r (λ y. y ≡ x) → Took s A d p h l (Err x) h' l' → Took s A d p h l r h' l'
passed {r = Ok v} t e = absurd t
passed {r = Err y} t e = rw t e

-- the same, of one whose value is seen otherwise
pub passed-as : {A B : Type 0} (f : A → B) (r : Result A Halt) (x : Halt) → IsErrAnd r (λ y. y ≡ x) → IsErrAnd (seen_as f r) (λ y. y ≡ x)
passed-as f (Ok v) x t = absurd t
passed-as f (Err y) x t = t

pub stops : {s : List ℕ} {A : Type 0} {d : A} {c : Cause} {x : Halt} {h : Head} {l : List Row} → x ≡ halt_of c → Took s A d (refuse c) h l (Err x) h l
unfolding run
stops e = took (rw e)

-- a step that stops the call: no other begins
pub cut : {s : List ℕ} {A B : Type 0} {d : A} {d' : B} {p : Plan A} (f : A → Plan B) {h h' : Head} {l l' : List Row} {x : Halt} {r : Result B Halt}
    → Took s A d p h l (Err x) h' l' → IsErrAnd r (λ y. y ≡ x) → Took s B d' (p then f) h l r h' l'
cut f e t = passed t (record { gave = bind f e.gave (from-stopped refl) })

-- a step that gives nothing, and is the last
pub last : {s : List ℕ} {p : Plan Nothing} {h h' : Head} {l l' : List Row} {r : Result Nothing Halt} → Went s p h l r h' l' → Went s (p then λ _. give tt) h l r h' l'
last {r = Ok v} e = next e gives
last {r = Err x} e = record { gave = bind (λ _. give tt) e.gave (from-stopped refl) }

-- a step that goes by a test
pub on_true : {s : List ℕ} {A : Type 0} {d : A} {p : Plan A} (q : Plan A) {b : Bool} {h h' : Head} {l l' : List Row} {r : Result A Halt}
    → b ≡ true → Took s A d p h l r h' l' → Took s A d (cond b p q) h l r h' l'
on_true q t e = rw t e

pub on_false : {s : List ℕ} {A : Type 0} {d : A} (p : Plan A) {q : Plan A} {b : Bool} {h h' : Head} {l l' : List Row} {r : Result A Halt}
    → b ≡ false → Took s A d q h l r h' l' → Took s A d (cond b p q) h l r h' l'
on_false p t e = rw t e

-- a step that goes by what the host holds
pub looks : {s : List ℕ} {A : Type 0} {d : A} (k : Line → Plan A) {h h' : Head} {l l' : List Row} {r : Result A Halt}
    → Took s A d (k h.line) h l r h' l' → Took s A d (look k) h l r h' l'
looks k e = record { gave = looking k e.gave }

-- words are only ever taken
pub grown : {s : List ℕ} {A : Type 0} {d : A} {p : Plan A} {h h' : Head} {l l' : List Row} {r : Result A Halt}
    → Took s A d p h l r h' l' → h.used ≤ h'.used
grown e = grows e.gave

-- by a step that reads what lies behind the first n words, as it says of every such script
pub read_further : {n : ℕ} {rest : List ℕ} {A : Type 0} {d : A} {p : Plan A} {h h' : Head} {r : Result A Halt}
    → ((s : List ℕ) (l : List Row) → Behind n rest s → Took s A d p h l r h' l) → h.used ≤ h'.used
read_further {n} {rest} e = some-script n rest (λ s part. grown (e s [] part))

-- a step that reads no word takes none
pub took_none : {A : Type 0} {d : A} {p : Plan A} {h h' : Head} {l l' : List Row} {r : Result A Halt} → Took [] A d p h l r h' l' → h'.used ≡ h.used
took_none e = dry e.gave

-- A step, and what becomes of its answer: gates and guards.

-- a step of a call, and what became of its value and of its refusal
pub handles : {s : List ℕ} {A B : Type 0} {d : A} {d' : B} {p : Plan A} (f : A → Plan B) (g : Cause → Plan B) {h h' h'' : Head} {l l' l'' : List Row}
    {r : Result A Halt} {r' : Result B Halt}
    → Took s A d p h l r h' l' → Settled s A B d' f g (value_of d r) (left_at r h' l') (value_of d' r') (left_at r' h'' l'')
    → Took s B d' (handle f g p) h l r' h'' l''
handles f g e t = record { gave = handled f g refl e.gave t }

-- a guard does nothing where the call goes on
pub guards-value : {s : List ℕ} {A : Type 0} {d v : A} {p : Plan A} (q : Plan Nothing) {h h' : Head} {l l' : List Row}
    → Took s A d p h l (Ok v) h' l' → Took s A d (guard q p) h l (Ok v) h' l'
unfolding run next_at
guards-value q e = record { gave = guarded q refl e.gave (record { same = refl }) }

-- and where it has stopped it does as it says
pub guards-halt : {s : List ℕ} {A : Type 0} {d : A} {p : Plan A} (q : Plan Nothing) {h h' h'' : Head} {l l' l'' : List Row} {x y : Halt}
    → Took s A d p h l (Err x) h' l' → Settled s Nothing Nothing tt give (refusing q) tt (at (stand (Stopped x) h') l') tt (at (stand (Stopped y) h'') l'')
    → Took s A d (guard q p) h l (Err y) h'' l''
guards-halt q e t = record { gave = guarded q refl e.gave t }

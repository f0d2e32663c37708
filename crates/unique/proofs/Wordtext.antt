-- A line for each public function of `wordtext`. Those of `byte` and `scan`, which are private to the crate, cannot be named
-- here.
use Prim.Native.Nat.{ℕ}
use mathlib.Core.List.{List, ◌++◌}
use mathlib.Core.Path.{◌≡◌, sym, ap, ap₂, ◌∙◌}
use lib.ListN.{length, drop, take-append-drop}
use lib.Seq.{length-take-le}
use Rattle.std.specs.Prelude.{Result}
use Rattle.wordtext.specs.declared.book.Refusal.{Refusal}
use Rattle.wordtext.specs.declared.scan.Scan.{Scan}
use Rattle.wordtext.specs.Text.{State, Holds, read_of, laid, book_over}
use Rattle.wordtext.proofs.book
use Rattle.wordtext.proofs.place
use Rattle.wordtext.proofs.token
use Rattle.unique.specs.Unique.{Unique}
use Rattle.unique.proofs.Determined.{determined}

-- In place of a line for `scan_text`, the same of the definition that its contract cites: of a state that is held there is one
-- list, and one scan.
pub held : (state : State) (was : List ℕ) (r : Scan) (list : List ℕ) → Holds state was r list
    → (list ≡ laid state.words was) × (r ≡ record { token = state.token; start = state.start; count = length state.words })
held state was r list h = (
  sym (take-append-drop r.count list)
      ∙ ap₂ ◌++◌ (ap (λ (s : State). s.words) h.same) (h.rest ∙ ap (λ (n : ℕ). drop n was) counted),
  λ i. record { token = (h.same i).token; start = (h.same i).start; count = counted i },
)
  where
    counted : r.count ≡ length state.words
    counted = sym (length-take-le r.count list (rw h.size h.fits)) ∙ ap (λ (s : State). length s.words) h.same

book-read-words : Unique book.read_words.Kinds.ps book.read_words.Kinds.r book.read_words.Reads.Learnt
book-read-words = determined _ λ _ _ _ p i. (p.1.0 i, p.0 i)

book-read-book : Unique book.read_book.Kinds.ps book.read_book.Kinds.r book.read_book.Reads.Learnt
book-read-book = determined _ λ _ a _ p i. ((p.1.0 ∙ ap (λ (r : Result ℕ Refusal). book_over r (read_of 4096 a.0.now).words a.1.0.now) p.0) i, p.0 i)

place-place-at : Unique place.place_at.Kinds.ps place.place_at.Kinds.r place.place_at.Reads.Learnt
place-place-at = determined _ λ _ _ _ p. p

token-token-after : Unique token.Token.after.Kinds.ps token.Token.after.Kinds.r token.Token.after.Reads.Learnt
token-token-after = determined _ λ _ _ _ p. p

token-token-completed : Unique token.Token.completed.Kinds.ps token.Token.completed.Kinds.r token.Token.completed.Reads.Learnt
token-token-completed = determined _ λ _ _ _ p. p

token_token_began : Unique token.Token.began.Kinds.ps token.Token.began.Kinds.r token.Token.began.Reads.Learnt
token_token_began = determined _ λ _ _ _ p. p

token_token_verdict : Unique token.Token.verdict.Kinds.ps token.Token.verdict.Kinds.r token.Token.verdict.Reads.Learnt
token_token_verdict = determined _ λ _ _ _ p. p

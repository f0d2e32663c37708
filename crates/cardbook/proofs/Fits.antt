-- What is printed of a file's bytes, whatever they are, fits the 4,096 bytes that the program has for it: no line is cut.
use Prim.Native.Nat.{ℕ, zero, suc, ◌+◌, ◌*◌, ◌/◌, ◌%◌, ◌≤◌, ◌<◌}
use mathlib.Core.Bool.{Bool, true, false, not}
use mathlib.Core.List.{List, [], ◌∷◌, ◌++◌, map}
use mathlib.Core.Path.{◌≡◌, refl, ap}
use native.Mathlib.Omega.{arith}
use lib.Dec.{eqb, ltb}
use lib.ListN.{length, get_or, take, drop, replicate, length-append, length-take, length-drop, length-replicate}
use borrow.Author.Tests.{lt-ltb}
use Rattle.types.specs.declared.error.Answer.{Answer}
use Rattle.types.specs.declared.error.Answer.TheVariants as Answered
use Rattle.types.specs.declared.register.Protection.{Protection}
use Rattle.text.specs.Digits.{decimal_in, decimal_of}
use Rattle.text.specs.Typed.{typed}
use Rattle.tape.proofs.Laws.{by_cases}
use Rattle.tape.proofs.Layouts.{rows_long}
use Rattle.tape.specs.Layout.{rows_in}
use Rattle.host.specs.declared.host.Sdmmc.{Sdmmc}
use Rattle.host.specs.Calls.{made}
use Rattle.calls.specs.Serve as S
use Rattle.calls.specs.Serve.{comes, serve}
use Rattle.calls.proofs.AnyList.{leaves, script_of, list_of}
use Rattle.book.specs.Layout as L
use Rattle.types.specs.Words.{words_of}
use Rattle.book.specs.Layout.{data_count, count_of, contents_of, calls_of, book_in, bad_words, bad_book, book_of}
use Rattle.book.specs.Lines.{host_line, answer_text, protect_text, call_line}
use Rattle.book.proofs.Short.{answer-number, answer-short, protect-short}
use Rattle.book.proofs.Causes.{good-words, or_right}
use Rattle.bench.specs.Bench.{settings_of, call_of, number_of, kind_of, came_line, lines_from, lines_served, where_accepted, book_lines, printed}

-- A number's digits.

tens : ℕ → ℕ
tens zero = 10
tens (suc d) = 10 * tens d

digits_in : (d turns n : ℕ) → n < tens d → length (decimal_in turns n) ≤ d + 1
unfolding decimal_in tens
digits_in d zero n h = omega arith
digits_in zero (suc turns) n h = rw (lt-ltb n 10 h) (omega arith)
digits_in (suc d) (suc turns) n h =
    by_cases (λ (x : List ℕ). length (x ++ ((48 + n % 10) ∷ [])) ≤ suc d + 1) (ltb n 10) [] (decimal_in turns (n / 10)) (omega arith)
    (rw length-append (omega (arith, digits_in d turns (n / 10) (omega (arith, h)))))

digits : (d n : ℕ) → n < tens d → length (decimal_of n) ≤ d + 1
unfolding decimal_of
digits d n h = digits_in d (suc n) n h

-- A line.

joined : (xs ys : List ℕ) {m n : ℕ} → length xs ≤ m → length ys ≤ n → length (xs ++ ys) ≤ m + n
joined xs ys h k = rw length-append (omega (arith, h, k))

host-line : (a : Answer) → length (host_line (number_of a)) ≤ 15
unfolding tens
host-line a =
    joined (typed "host answer ") (decimal_of (number_of a) ++ typed "\n") {m = 12} (omega arith)
    (joined (decimal_of (number_of a)) (typed "\n") {n = 1} (digits 1 (number_of a) (omega (arith, answer-number a))) (omega arith))

call-line : (k kind : ℕ) (a : Answer) (words rows : ℕ) (p : Protection) → k ≤ 64 → words ≤ 4096 → rows ≤ 4096
    → length (call_line k kind a words rows p) ≤ 52
unfolding tens
call-line k kind a words rows p hk hw hr =
    let used = typed " words " ++ decimal_of words in
    let wrote = typed " rows " ++ decimal_of rows in
    joined (decimal_of k ++ answer_text a ++ used ++ wrote ++ protect_text kind a p) (typed "\n") {n = 1}
    (joined (decimal_of k ++ answer_text a ++ used ++ wrote) (protect_text kind a p)
    (joined (decimal_of k ++ answer_text a ++ used) wrote
    (joined (decimal_of k ++ answer_text a) used
    (joined (decimal_of k) (answer_text a) (digits 1 k (omega (arith, hk))) (answer-short a))
    (joined (typed " words ") (decimal_of words) {m = 7} (omega arith) (digits 3 words (omega (arith, hw)))))
    (joined (typed " rows ") (decimal_of rows) {m = 6} (omega arith) (digits 3 rows (omega (arith, hr)))))
    (protect-short kind a p))
    (omega arith)

-- A call: it uses no more words than its script has, and writes no more rows than there is room for.

script-of : (c : L.Call) → script_of (call_of 4096 c) ≡ c.script
script-of c =
    let its : S.Call → Type 0 = λ x. script_of x ≡ c.script in
    by_cases its (eqb c.kind 1) _ _ refl (by_cases its (eqb c.kind 2) _ _ refl (by_cases its (eqb c.kind 4) _ _ refl refl))

list-of : (c : L.Call) → list_of (call_of 4096 c) ≡ rows_in (replicate 4096 0)
list-of c =
    let its : S.Call → Type 0 = λ x. list_of x ≡ rows_in (replicate 4096 0) in
    by_cases its (eqb c.kind 1) _ _ refl (by_cases its (eqb c.kind 2) _ _ refl (by_cases its (eqb c.kind 4) _ _ refl refl))

came-line : (host : Sdmmc) (c : L.Call) (k : ℕ) → k ≤ 64 → length c.script ≤ 4096 → length (came_line k (call_of 4096 c) (comes host (call_of 4096 c))) ≤ 52
came-line host c k hk hs =
    let call = call_of 4096 c in
    let x = comes host call in
    let left = leaves host call in
    let used = rw (script-of c) at left.words in
    let wrote = rw (list-of c) at (left.rows.within (omega arith)) in
    call-line k (kind_of call) x.answer x.words x.rows x.host.card.protection hk (omega (arith, used, hs)) (omega (arith, wrote, rows_long (replicate 4096 0), length-replicate {A = ℕ} 4096 0))

-- All calls of a book.

data Short : List L.Call → Type 0 where
  done : Short []
  more : (c : L.Call) (cs : List L.Call) → length c.script ≤ 4096 → Short cs → Short (c ∷ cs)

lines : (host : Sdmmc) (k : ℕ) (cs : List L.Call) → Short cs → k + length cs ≤ 65
    → length (lines_served k host (map (call_of 4096) cs)) ≤ 52 * length cs
unfolding serve lines_from
lines host k [] done h = omega arith
lines host k (c ∷ cs) (more _ _ short rest) h =
    let first = came-line host c k (omega (arith, h)) short in
    let others = lines (comes host (call_of 4096 c)).host (k + 1) cs rest (omega (arith, h)) in
    rw length-append (omega (arith, first, others))

calls : (n : ℕ) (rows bodies : List ℕ) → length bodies ≤ 4096 → Short (calls_of n rows bodies) × (length (calls_of n rows bodies) ≡ n)
unfolding calls_of
calls zero rows bodies h = (done, refl)
calls (suc n) rows bodies h =
    let rest = calls n (drop 4 rows) (drop (get_or rows 3 0) bodies) (rw length-drop (omega arith)) in
    let short : length (drop (data_count (get_or rows 0 0) (get_or rows 2 0)) (take (get_or rows 3 0) bodies)) ≤ 4096 = rw (length-drop, length-take) (omega (arith, h)) in
    (more _ _ short rest.0, ap suc rest.1)

book-lines : (ws : List ℕ) → bad_words ws ≡ false → length (book_lines (book_in ws)) ≤ 4096
unfolding book_lines book_in where_accepted
book-lines ws e =
    let good = good-words ws e in
    let found = calls (count_of ws) (drop 7 ws) (drop (contents_of ws) ws) (rw length-drop (omega (arith, good.long))) in
    let host = made (settings_of (book_in ws)) in
    let all = lines host.host 1 (book_in ws).calls found.0 (omega (arith, found.1, good.most)) in
    let told = whole host.answer (lines_served 1 host.host (map (call_of 4096) (book_in ws).calls)) all in
    rw length-append (omega (arith, host-line host.answer, told, found.1, good.most))
  where
    whole : (a : Answer) (text : List ℕ) {n : ℕ} → length text ≤ n → length (where_accepted a text) ≤ n
    whole Answered.Accepted text h = h
    whole (Answered.Refused e) text h = omega arith
    whole Answered.ScriptEnded text h = omega arith
    whole Answered.TraceFull text h = omega arith
    whole Answered.BadBook text h = omega arith

pub fits : (bytes : List ℕ) → length (printed bytes) ≤ 4096
unfolding book_of bad_book
fits bytes = by (bad_book bytes) refl
  where
    by : (b : Bool) → bad_book bytes ≡ b → length (printed bytes) ≤ 4096
    by true bad = rw bad (omega (arith, host-line Answered.BadBook))
    by false good = rw good (book-lines (words_of bytes) (or_right (not (eqb (length bytes % 4) 0)) (bad_words (words_of bytes)) good))

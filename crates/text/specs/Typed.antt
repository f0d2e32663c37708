-- A quoted text as its bytes. Every text here is ASCII, so a character's number is its byte.
use Rattle.std.specs.Prelude.{ℕ, List, [], ◌∷◌}
use Prim.Native.Char.{code}
use Prim.Native.String as S

abbrev pub typed : S.String → List ℕ
typed S.[] = []
typed (S.◌∷◌ c s) = code c ∷ typed s

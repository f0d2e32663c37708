-- A 13 CARRIES THE FIELD of the step that refused, by what a call leaves: of the words that it used on this script, and of the
-- rows that it wrote, holds what the field says of the card (init/specs/Fields.antt).
use Rattle.std.specs.Prelude.{ℕ, List, ◌≡◌}
use Rattle.types.specs.declared.error.Answer.TheVariants.{Refused}
use Rattle.types.specs.declared.error.Error.TheVariants.{UnsupportedCardType}
use Rattle.types.specs.declared.error.Field.{Field}
use Rattle.bus.specs.Sent.{last_sent}
use Rattle.init.specs.Fields.{Blames}
use Rattle.host.specs.Calls.{Came}

abbrev pub CarriesField : List ℕ → Came → Type 0
CarriesField s x = (field : Field) → x.answer ≡ Refused (UnsupportedCardType field) → Blames s x.words (last_sent x.rows x.list) field

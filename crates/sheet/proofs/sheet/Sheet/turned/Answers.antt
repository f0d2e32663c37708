use Rattle.sheet.proofs.Sheets.{behind, anew}
use mathlib.Core.Path.{◌∙◌}
use borrow.Author.Rules.{rules}
use Rattle.sheet.proofs.sheet.Sheet.turned.Goals as goal

pub returns-then-out-self-ge-LINE : goal.returns-then-out-self-ge-LINE
returns-then-out-self-ge-LINE g c = record { roomy = behind _ _ (search rules); kept = λ e. e }

pub returns : goal.returns
returns g c = record { roomy = c.handed.ensures.empty ∙ anew _ _ (search rules); kept = c.handed.ensures.kept }

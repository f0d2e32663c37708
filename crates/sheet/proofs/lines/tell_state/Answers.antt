use Rattle.std.proofs.Common.{rules}
use Rattle.text.proofs.Lent.{same_name}
use Rattle.text.proofs.Pens.{made_over}
use Rattle.sheet.proofs.Sheets.{told}
use Rattle.sheet.proofs.lines.tell_state.Goals as goal

pub returns : goal.returns
returns g c =
    let made = c.new-pen.ensures in
    let name = same_name _ _ c.put_state.ensures made.same in
    told c.requires c.turned-turned.ensures.roomy c.turned-turned.ensures.kept (made_over _ made.stands made.held c.put_state.ensures (search rules)) c.filled.ensures

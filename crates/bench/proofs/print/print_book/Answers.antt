use Rattle.std.proofs.Common.{rules}
use Rattle.text.proofs.Lent.{same_name}
use Rattle.text.proofs.Pens.{made_over}
use Rattle.bench.proofs.print.print_book.Goals as goal

pub returns : goal.returns
returns c = let made = c.new-pen.ensures in
    let name = same_name _ _ c.print_in.ensures made.same in
    made_over _ made.stands made.held c.print_in.ensures (search rules)

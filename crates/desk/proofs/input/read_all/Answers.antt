use Rattle.std.specs.Prelude.{Ok}
use Rattle.std.proofs.Common.{◌≡◌, ◌∙◌, sym, ap, subst, length, rules}
use Rattle.std.specs.Io.KnownBytes.{ReadConsumes}
use Rattle.streams.specs.Moved.{Moved}
use Rattle.desk.proofs.Inputs.{came_some, more_read}
use Rattle.desk.proofs.input.read_all.Goals as goal

pub loop-done-preserved : goal.loop-done-preserved
loop-done-preserved g c = let inv = c.loop-done.invariant in
    let got : c.get.result ≡ Ok c.in-Some.more = came_some c.get.result c.in-Some.more (sym c.came.ensures ∙ c.in_ok-more.was ∙ ap Ok c.in-Some.is) in
    let moved = subst (Moved (length c.get.new.buffer)) got c.get.ensures.moved in
    let read = subst (λ r. ReadConsumes (g.R.Read.remaining c.loop-done.source.from) (g.R.Read.remaining c.get.new.self.from) r c.get.new.buffer) got c.get.ensures.bytes in
    (search rules, search rules, more_read _ _ _ c.loop-done.done _ c.in-Some.more c.loop-done.buffer c.get.new.buffer inv.0 moved inv.2 read.0)

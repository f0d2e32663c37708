use Rattle.feed.proofs.feed.ended.Goals as goal

pub returns : goal.returns
returns c = λ g i. record { called = c.called.ensures g i; place = c.args.feeding.place }

use Rattle.tape.specs.Layout.{rows_in}
use Rattle.meter.proofs.Served.{one-served}
use Rattle.meter.proofs.serve_call.Goals as goal

pub returns : goal.returns
returns g c = let asked = c.call_at-asked.ensures in
    let turn = c.args.turn in
    let done = rw asked at c.ask-called.ensures in record {
      served = one-served c.args.words.now c.args.k turn.place turn.host (rows_in c.args.rows.now) c.args.buffer.now
          done.answered done.listed done.filled (rw c.number.ensures at c.told.ensures);
      passed = rw asked at c.behind.ensures;
    }

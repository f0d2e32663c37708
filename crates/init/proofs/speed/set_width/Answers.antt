use Rattle.tape.specs.Layout.{rows_in}
use mathlib.Core.Path.{◌≡◌}
use mathlib.Core.Bool.{not, ◌&&◌, ◌||◌}
use Rattle.types.specs.Sd.{one_line, four_lines}
use Rattle.init.specs.Initialise.{set_width}
use Rattle.tape.proofs.Took.{gives, next, carry, cut}
use Rattle.init.proofs.speed.set_width.Goals as goal

pub returns-in_err-ensure : goal.returns-in_err-ensure
unfolding set_width
returns-in_err-ensure c = let scr = c.args.scr.0 in
    let fit : c.fits.result ≡ (one_line scr && (not c.args.settings.wide || four_lines scr)) = c.fits.ensures in
    let s = c.args.script.now in
    let h = c.args.head.now in
    let l = rows_in c.args.rows.now in
    cut _ (rw fit at (c.in_err-ensure.ensures s h l)) c.from_residual.ensures.1

pub returns-in_err-app_command : goal.returns-in_err-app_command
unfolding set_width
returns-in_err-app_command c = let scr = c.args.scr.0 in
    let fit : c.fits.result ≡ (one_line scr && (not c.args.settings.wide || four_lines scr)) = c.fits.ensures in
    let s = c.args.script.now in
    let h = c.args.head.now in
    let l = rows_in c.args.rows.now in
    next (rw fit at (c.in_ok-ensure.ensures s h l)) (cut _ c.in_err-app_command.ensures c.from_residual-in_err-app_command.ensures.1)

pub returns-in_err-send : goal.returns-in_err-send
unfolding set_width
returns-in_err-send c = let scr = c.args.scr.0 in
    let fit : c.fits.result ≡ (one_line scr && (not c.args.settings.wide || four_lines scr)) = c.fits.ensures in
    let s = c.args.script.now in
    let h = c.args.head.now in
    let l = rows_in c.args.rows.now in
    next (rw fit at (c.in_ok-ensure.ensures s h l))
    (next c.in_ok-app_command.ensures (cut _ (rw c.width.ensures at c.in_err-send.ensures) c.from_residual-in_err-send.ensures.1))

pub returns : goal.returns
unfolding set_width
returns c = let scr = c.args.scr.0 in
    let fit : c.fits.result ≡ (one_line scr && (not c.args.settings.wide || four_lines scr)) = c.fits.ensures in
    let s = c.args.script.now in
    let h = c.args.head.now in
    let l = rows_in c.args.rows.now in
    next (rw fit at (c.in_ok-ensure.ensures s h l))
    (next c.in_ok-app_command.ensures (carry _ (rw c.width.ensures at c.in_ok-send.ensures) gives))

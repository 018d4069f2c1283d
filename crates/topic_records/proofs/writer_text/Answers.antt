use Rattle.std.proofs.Common.{◌≡◌, ◌<◌, ℕ, List, length, get_or, ◌∙◌, sym, true≢false, rules, arith}
use mir.Val.{Fits}
use mir.Syntax.{w8}
use Rattle.std.specs.Prelude.{Result, Ok, Err, IsOk, OnOk}
use Rattle.topic_records.specs.FormatLaws.{hex-is, hex-low}
use Rattle.topic_records.proofs.writer_text.Goals as goal

said : {A E : Type 0} (P : Type 0) (r : Result A E) → IsOk r → OnOk r P → P
said P (Ok x) o p = p
said P (Err e) o p = absurd (true≢false (sym o))

bytes : (w : List ℕ) → ((i : ℕ) → Fits w8 (get_or w i 0)) → (i : ℕ) → get_or w i 0 < 256
bytes w fits i = (fits i).fits

-- By search and with `hex-low`, so that a body that lowers the letters is taken too: one that raises them is refused for its letters alone.
pub returns : goal.returns
returns c =
    let e = c.encode_to_slice.ensures in
    let long : length c.args.writer ≡ 16 = search rules in
    let each : (i : ℕ) → get_or c.args.writer i 0 < 256 = bytes c.args.writer (search rules) in
    let digits = said _ _ (e.fits.1 (omega arith)) e.written ∙ hex-is c.args.writer each in
    let low = hex-low c.args.writer c.encode_to_slice.new.output each digits in
    search (rules, digits, low)

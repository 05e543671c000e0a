-- `script::line::Line::push_number` meets its contract.
use Rattle.std.proofs.Common.{◌∙◌, ◌≤◌, length, length-append, arith}
use Rattle.script.proofs.Lines.{number_short, number_pushed}
use Rattle.script.proofs.line.Line.push_number.Goals as goal

pub push-requires-2 : goal.push-requires-2
push-requires-2 c =
    let text = c.as_bytes.ensures.value ∙ c.format.ensures.text in
    let short : length c.as_bytes.result.now ≤ 20 = rw text (number_short c.args.x c.requires.0) in
    rw c.push.ensures (omega (arith, length-append c.args.self.now c.as_bytes.result.now))

pub returns : goal.returns
returns c =
    number_pushed _ _ _ _ _ _ c.requires.0 (c.as_bytes.ensures.value ∙ c.format.ensures.text) c.push.ensures
    c.push-2.ensures

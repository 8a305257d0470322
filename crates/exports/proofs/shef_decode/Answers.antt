use Rattle.std.proofs.Common.{sym, ◌∙◌, rules}
use Rattle.events.specs.Events.{records}
use Rattle.shef.specs.Decodes.{decoded}
use Rattle.exports.specs.Lawful.{lawful}
use Rattle.exports.proofs.Written.{lines-written, rest_kept}
use Rattle.exports.proofs.shef_decode.Goals as goal

pub returns-clause-lines : goal.returns-clause-lines
returns-clause-lines c =
    let S = lawful c.args.year c.args.month c.args.day in
    let s = c.new-log.result in
    let t = c.decode-answer.new.sink in
    let new = c.new-log.ensures in
    let end = c.decode-answer.ensures in
    let tie = sym (end.frame.0.lent ∙ new.lent) in
    lines-written s t (records (decoded S c.args.text.now)) c.decode-answer.result.delivered _ new.empty end.sink end.delivered (search rules) _ new.room

pub returns-clause-behind : goal.returns-clause-behind
returns-clause-behind c =
    let S = lawful c.args.year c.args.month c.args.day in
    let s = c.new-log.result in
    let t = c.decode-answer.new.sink in
    let new = c.new-log.ensures in
    let end = c.decode-answer.ensures in
    let tie = sym (end.frame.0.lent ∙ new.lent) in
    rest_kept s t (records (decoded S c.args.text.now)) c.decode-answer.result.delivered _ new.empty end.sink end.delivered (search rules) _ new.kept end.frame.0

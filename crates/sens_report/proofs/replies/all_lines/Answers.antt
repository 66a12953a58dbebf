use Rattle.std.proofs.Common.{◌≡◌, ◌+◌, ◌≤◌, ◌++◌, ◌∙◌, ap, arith, length}
use Rattle.std.specs.Prelude.{[], get_or, pos, string_bytes}
use Rattle.std.specs.List.{enumerate_from}
use Rattle.std.proofs.lemmas.List.FromFn.{length-enumerate_from}
use Rattle.std.proofs.lemmas.Option.{slice_get-get_or}
use Rattle.ip_defs.specs.declared.certificates.Bound.TheVariants.{At}
use Rattle.sens_report.specs.ReplyTexts.{reply_line}
use Rattle.sens_report.specs.declared.replies.Reply.{Reply}
use Rattle.sens_report.specs.declared.replies.Reply.TheVariants.{Bound}
use Rattle.sens_report.proofs.LineLaws.{lines_added, lines_complete, numbered}
use Rattle.sens_report.proofs.replies.all_lines.Goals as goal

pub loop-j-preserved : goal.loop-j-preserved
loop-j-preserved c =
    let rs = c.args.replies.now in
    let j = c.loop-j.j in
    let reply : Reply = get_or rs j (Bound (At (pos 0)) 0) in
    let found = slice_get-get_or rs j (Bound (At (pos 0)) 0) c.loop-j-test.true in
    let number : j + 1 ≡ 1 + j = omega arith in
    let added = c.in_ok-push_reply.ensures ∙ ap (λ k. string_bytes c.loop-j.text ++ reply_line (k, reply)) number in
    lines_added reply_line [] (enumerate_from 1 rs) j (1 + j, reply) (numbered 1 rs j reply found) c.loop-j.invariant added

pub returns : goal.returns
returns c =
    let rs = c.args.replies.now in
    let size = length-enumerate_from 1 rs in
    let past = c.loop-j-test.false in
    let end : length (enumerate_from 1 rs) ≤ c.loop-j.j = omega arith in
    lines_complete reply_line [] (enumerate_from 1 rs) c.loop-j.j end c.loop-j.invariant

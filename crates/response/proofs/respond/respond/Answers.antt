use Rattle.std.proofs.Common.{string_bytes, sym, ap, subst, ◌∙◌}
use Rattle.std.proofs.lemmas.Result.{IfOk-weaker}
use Rattle.frame_file.specs.Refusals.{file_refusal}
use Rattle.frame_laws.proofs.WrittenAccepted.{written_is_accepted}
use Rattle.response.specs.Responses.{PrintsFor, Responds, RespondsTo}
use Rattle.response.proofs.respond.respond.Goals as goal

pub returns-in-Ok : goal.returns-in-Ok
returns-in-Ok c =
    let f = c.in-Ok.frame in
    let bytes = c.args.input.now in
    let read = (c.read.ensures.exactly f).0 c.in-Ok.is in
    let none = ap file_refusal read.0 ∙ written_is_accepted f read.1 in
    IfOk-weaker c.respond_to.result (λ text. PrintsFor f (string_bytes text)) (λ text. Responds bytes (string_bytes text))
    (λ text prints. subst (λ o. RespondsTo o bytes (string_bytes text)) (sym none) (record { frame = f; bytes_are = read.0; fits = read.1; prints = prints })) c.respond_to.ensures

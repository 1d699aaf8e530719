use Rattle.std.proofs.Common.{string_bytes, sym, subst}
use Rattle.std.proofs.lemmas.Result.{on_ok_weaker}
use Rattle.response.specs.Responses.{Responds}
use Rattle.draw.specs.Serving.{Serves}
use Rattle.draw.proofs.Inputs.{served}
use Rattle.draw.proofs.serving.serve.Goals as goal

pub returns : goal.returns
returns g c =
    let old = g.W.Write.contents c.args.writer.now in
    let new = g.W.Write.contents c.write_all.new.self in
    let input = c.read_to_end.new.buf.items in
    let out = c.as_bytes.result.now in
    let responds = subst (Responds input) (sym c.as_bytes.ensures.value) (subst (λ bytes. Responds bytes (string_bytes c.in_ok-text.text)) c.deref.ensures.value c.in_ok-text.ensures) in
    on_ok_weaker c.write_all.result
    (λ appends. subst (λ r. Serves (g.R.Read.remaining r) old new) c.take.ensures.inner
    (served (g.R.Read.remaining c.take.result.inner) old new c.take.result.limit c.new-input.result.items input out c.take.ensures.limit c.new-input.ensures.items c.in_ok-read_to_end.ensures.bytes responds appends))
    c.write_all.ensures.bytes

use Rattle.std.proofs.Common.{rules, ◌∙◌, ap, [], ◌∷◌, ◌++◌}
use Rattle.pic_hash.proofs.Messages.{message_is}
use Rattle.pic_hash.proofs.message.message.Goals as goal

pub returns : goal.returns
returns c =
    message_is c.args.picture.now.g c.args.picture.now.b c.args.picture.now.r c.plane_digest.result c.plane_digest-2.result c.plane_digest-3.result c.push.new.self.items
    c.plane_digest.ensures c.plane_digest-2.ensures c.plane_digest-3.ensures
    (c.in_ok-push.ensures.items
    ∙ ap (λ l. l ++ 128 ∷ []) (c.in_ok-extend_from_slice-4.ensures.items
    ∙ ap (λ l. l ++ c.plane_digest-3.result) (c.in_ok-extend_from_slice-3.ensures.items
    ∙ ap (λ l. l ++ c.plane_digest-2.result) (c.in_ok-extend_from_slice-2.ensures.items
    ∙ ap (λ l. l ++ c.plane_digest.result) (c.in_ok-extend_from_slice.ensures.items ∙ ap (λ l. l ++ 132 ∷ 49 ∷ 0 ∷ []) c.in_ok-bytes.ensures.items)))))

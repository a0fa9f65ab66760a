use Rattle.std.proofs.Common.{◌++◌, ◌∙◌, ap}
use Rattle.test_words.proofs.texts.repeated.Goals as goal

pub returns : goal.returns
returns c =
    let before = c.args.before.now in
    c.in_ok-push_str-2.ensures.bytes
    ∙ ap (λ text. text ++ c.as_str.result.now) (c.in_ok-push_str.ensures.bytes ∙ ap (λ empty. empty ++ before) c.new-text.ensures.bytes)
    ∙ ap (λ behind. before ++ behind) (c.as_str.ensures.value ∙ c.in_ok-repeat.ensures.bytes)

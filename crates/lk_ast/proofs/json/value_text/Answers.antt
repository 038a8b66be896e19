use Rattle.std.proofs.Common.{◌∙◌, ap}
use Rattle.serde_json.specs.Written.{has_float, compact_text}
use Rattle.lk_ast.proofs.NoFloat.{has_float-value_data}
use Rattle.lk_ast.proofs.json.value_text.Goals as goal

pub returns : goal.returns
returns c =
    let json = c.in_ok-json.ensures in
    c.from_string.ensures
    ∙ c.in_ok-to_string.ensures.text (ap has_float json ∙ has_float-value_data c.args.value.now)
    ∙ ap compact_text json

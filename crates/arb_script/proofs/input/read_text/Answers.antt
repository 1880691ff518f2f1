use Rattle.std.proofs.Common.{rules, subst}
use Rattle.std.specs.Str.{IsUtf8}
use Rattle.std.proofs.lemmas.Str.{IsUtf8-string_bytes}
use Rattle.arb_script.proofs.InputLaws.{text_is_text}
use Rattle.arb_script.proofs.input.read_text.Goals as goal

pub returns-in-Ok-clause-not_text : goal.returns-in-Ok-clause-not_text
returns-in-Ok-clause-not_text g c =
    let good : IsUtf8 c.in_ok-bytes.bytes.items = subst (λ v. IsUtf8 v.items) (c.in-Ok.ensures {u = tt}).ok (IsUtf8-string_bytes c.in-Ok.text) in
    text_is_text _ (g.R.Source.remaining c.args.reader.now) c.in_ok-bytes.bytes.items c.args.limit good (c.in_ok-bytes.ensures {u = tt}).all

pub returns-clause-refused : goal.returns-clause-refused
returns-clause-refused g c = search rules

pub returns-clause-not_text : goal.returns-clause-not_text
returns-clause-not_text g c = search rules

use Rattle.std.proofs.Common.{rules, ap, ◌∙◌, ◌^◌, ◌-◌, codes, ◌≡◌, ◌++◌, OnOk, string_bytes}
use Rattle.std.specs.Fmt.{format_spec, styled_decimal}
use Rattle.rbc_dispatch.specs.Meanings.{text_of}
use Rattle.rbc_dispatch.proofs.Columns.{in_five, in_ten, same_line}
use Rattle.rbc_dispatch.proofs.long.push_line.Goals as goal

pub returns : goal.returns
returns c =
    let row = c.args.row in
    let five : c.laid_out.result ≡ format_spec 32 3 0 5 (2 ^ 64 - 1) = search rules in
    let also_five : c.laid_out-2.result ≡ format_spec 32 3 0 5 (2 ^ 64 - 1) = search rules in
    let ten : c.laid_out-3.result ≡ format_spec 32 3 0 10 (2 ^ 64 - 1) = search rules in
    let written : OnOk c.write.result (string_bytes c.write.new.self ≡ string_bytes c.args.text.now ++ (styled_decimal c.laid_out.result row.place ++ (codes " " ++ (styled_decimal c.laid_out-2.result row.width ++ (codes "  " ++ (c.column-name.result.now ++ (codes " " ++ (styled_decimal c.laid_out-3.result row.value ++ (codes "  " ++ (text_of c.meaning_in-meaning.result ++ codes "\n")))))))))) = c.write.ensures.bytes in
    same_line c.write.result _ _ _ _ _ _ _ _ _ _ _ _
    (ap (λ s. styled_decimal s row.place) five ∙ in_five row.place)
    (ap (λ s. styled_decimal s row.width) also_five ∙ in_five row.width)
    c.column-name.ensures
    (ap (λ s. styled_decimal s row.value) ten ∙ in_ten row.value)
    c.meaning_in-meaning.ensures written

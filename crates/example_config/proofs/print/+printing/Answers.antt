use Rattle.std.proofs.Common.{rules, arith, ◌≡◌, ◌+◌, ◌*◌, ◌<◌, ◌∙◌, ◌++◌, max, ap, None, Option, Some, []}
use Rattle.std.proofs.Common.{codes, map, subst, sym}
use denote.Param.Weighed.{most}
use Rattle.std.proofs.Output.{has_written_append, has_written_of_eq}
use Rattle.std.proofs.lemmas.Grind.{put_three}
use Rattle.std.specs.Global.{Box, Vec}
use Rattle.syn_parse.specs.TokenNames.{Comma, Token}
use Rattle.syn_punctuated.proofs.Depth.{deepest_value, most_values}
use Rattle.syn_punctuated.specs.Lists.{values_of}
use Rattle.syn_punctuated.specs.declared.punctuated.Punctuated.{Punctuated}
use Rattle.tok_types.specs.declared.delimiter.Visible.{Visible}
use Rattle.example_config.specs.Forms.{forms, setting_form, setting_forms, value_form}
use Rattle.example_config.specs.Printed.{in_a_row, setting_texts, value_text}
use Rattle.example_config.specs.Printed.{value_texts}
use Rattle.example_config.specs.declared.value.Setting.{Setting, size-Setting}
use Rattle.example_config.specs.declared.value.Value.{List, Map, Value, size-Value, the_lemmas}
use Rattle.example_config.proofs.Formed.{formed}
use Rattle.example_config.proofs.Printing.{all_written, left, none_written, text_further}
use Rattle.example_config.proofs.print.+printing.Goals as goal

-- how deep a list and a map are
list-by : (bracket : Visible 2) (inner : Vec (Value × Token Comma)) (last : Option (Box Value))
    → let values : Punctuated Value (Token Comma) = record { inner = inner; last = last } in
    size-Value (List bracket values) ≡ max (deepest_value size-Value values) 0 + 1
list-by bracket inner None = search (rules, the_lemmas)
list-by bracket inner (Some last) = search (rules, the_lemmas)

map-by : (brace : Visible 1) (inner : Vec (Setting × Token Comma)) (last : Option (Box Setting))
    → let settings : Punctuated Setting (Token Comma) = record { inner = inner; last = last } in
    size-Value (Map brace settings) ≡ max (deepest_value size-Setting settings) 0 + 1
map-by brace inner None = search (rules, the_lemmas)
map-by brace inner (Some last) = search (rules, the_lemmas)

pub write_value-write_list-requires : goal.write_value-write_list-requires
write_value-write_list-requires g t c κs within =
    let values = c.in-List.values in
    let value = ap size-Value c.in-List.is ∙ list-by _ values.inner values.last in
    let deepest = most_values size-Value values in
    let less : 2 * most size-Value (values_of values) + 1 < 2 * size-Value c.args.value.now =
    omega (arith, deepest, value) in
    search rules

pub write_value-write_map-requires : goal.write_value-write_map-requires
write_value-write_map-requires g t c κs within =
    let settings = c.in-Map.settings in
    let value = ap size-Value c.in-Map.is ∙ map-by _ settings.inner settings.last in
    let deepest = most_values size-Setting settings in
    let less : 2 * most size-Setting (values_of settings) + 1 < 2 * size-Value c.args.value.now =
    omega (arith, deepest, value) in
    search rules

pub write_value-returns-in-List : goal.write_value-returns-in-List
write_value-returns-in-List g t c =
    λ plain ok.
    let form = ap value_form c.in-List.is ∙ formed.0.is c.in-List.field-0 c.in-List.values in
    has_written_of_eq _ _ _ _ _ (ap value_text (sym form)) (c.write_list.ensures plain ok)

pub write_value-returns-in-Map : goal.write_value-returns-in-Map
write_value-returns-in-Map g t c =
    λ plain ok.
    let form = ap value_form c.in-Map.is ∙ formed.1.is c.in-Map.field-0 c.in-Map.settings in
    has_written_of_eq _ _ _ _ _ (ap value_text (sym form)) (c.write_map.ensures plain ok)

pub write_list-loop-item-init : goal.write_list-loop-item-init
write_list-loop-item-init g t c =
    let start = c.into_iter-item-iterator.ensures.into_iter_gives.0 in (
      omega (arith, ap (most size-Value) start),
      λ plain. (
        [],
        none_written _ _ plain,
        ap (λ s. in_a_row (value_texts (forms (map value_form s))))
            start,
      ),
    )

pub write_list-loop-item-preserved : goal.write_list-loop-item-preserved
write_list-loop-item-preserved g t c =
    let held = c.loop-item.invariant in
    let steps = c.in-Some.ensures.steps in (
      omega (arith, held.0, ap (most size-Value) steps),
      λ plain.
          let (done, wrote, more) = held.1 plain in
          let one = c.write_between.ensures wrote.plain (search rules) in
          let two = c.write_value.ensures one.plain (search rules) in (
            _,
            has_written_append _ _ _ _ _ _ (has_written_append _ _ _ _ _ _ wrote one) two,
            text_further c.loop-item.is_first done _ _ _
                (subst (λ s. done
                ++ left c.loop-item.is_first (value_texts (forms (map value_form s)))
                ≡ in_a_row (value_texts (forms (map value_form (values_of c.args.values.now)))))
                steps more),
          ),
    )

pub write_list-returns : goal.write_list-returns
write_list-returns g t c =
    λ plain ok.
    let opened = c.write_str.ensures.writes plain (search rules) in
    let (done, wrote, more) = c.loop-item.invariant.1 opened.plain in
    let closed = c.write_str-2.ensures.writes wrote.plain ok in
    let row = in_a_row (value_texts (forms (map value_form (values_of c.args.values.now)))) in
    let whole = all_written c.loop-item.is_first done row
    (subst (λ s. done ++ left c.loop-item.is_first (value_texts (forms (map value_form s))) ≡ row)
    c.in-None.ensures.steps.0 more) in
    put_three _ _ _ _ _ _ _ _ _ opened wrote closed (ap (λ w. codes "[" ++ (w ++ codes "]")) whole)

pub write_map-loop-setting-init : goal.write_map-loop-setting-init
write_map-loop-setting-init g t c =
    let start = c.into_iter-setting-iterator.ensures.into_iter_gives.0 in (
      omega (arith, ap (most size-Setting) start),
      λ plain. (
        [],
        none_written _ _ plain,
        ap (λ s.
            in_a_row (setting_texts (setting_forms (map setting_form s)))) start,
      ),
    )

pub write_map-loop-setting-preserved : goal.write_map-loop-setting-preserved
write_map-loop-setting-preserved g t c =
    let held = c.loop-setting.invariant in
    let steps = c.in-Some.ensures.steps in
    let all = setting_texts (setting_forms (map setting_form (values_of c.args.settings.now))) in (
      omega (arith, held.0, ap (most size-Setting) steps),
      λ plain.
          let (done, wrote, more) = held.1 plain in
          let one = c.write_between.ensures wrote.plain (search rules) in
          let two = c.write_setting.ensures one.plain (search rules) in (
            _,
            has_written_append _ _ _ _ _ _ (has_written_append _ _ _ _ _ _ wrote one) two,
            text_further c.loop-setting.is_first done _ _ _
                (subst (λ s. done
                ++ left c.loop-setting.is_first
                (setting_texts (setting_forms (map setting_form s))) ≡ in_a_row all)
                steps more),
          ),
    )

pub write_map-returns : goal.write_map-returns
write_map-returns g t c =
    λ plain ok.
    let opened = c.write_str.ensures.writes plain (search rules) in
    let (done, wrote, more) = c.loop-setting.invariant.1 opened.plain in
    let closed = c.write_str-2.ensures.writes wrote.plain ok in
    let all = setting_forms (map setting_form (values_of c.args.settings.now)) in
    let row = in_a_row (setting_texts all) in
    let whole = all_written c.loop-setting.is_first done row
    (subst (λ s. done
    ++ left c.loop-setting.is_first (setting_texts (setting_forms (map setting_form s))) ≡ row)
    c.in-None.ensures.steps.0 more) in
    put_three _ _ _ _ _ _ _ _ _ opened wrote closed (ap (λ w. codes "{" ++ (w ++ codes "}")) whole)

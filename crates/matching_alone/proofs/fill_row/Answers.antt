-- One law a kind.
use Rattle.tables.specs.Tables.{string_table}
use Rattle.matching_alone.proofs.RowKinds.{made_text, made_data, made_list, made_one_or_more}
use Rattle.matching_alone.proofs.RowKinds.{made_choice, made_group, made_interleave, made_rest}
use mathlib.Core.Path.{sym, ◌∙◌}
use Rattle.matching_alone.proofs.fill_row.Goals as goal

pub fill_list-requires : goal.fill_list-requires
fill_list-requires c =
    let pre = c.requires in (
      pre.0,
      pre.2,
      record {
        row = pre.4;
        is_list = sym c.kind-kind.ensures ∙ c.in-6.is;
        field = c.field_a-a.ensures;
      },
    )

pub returns-in-3 : goal.returns-in-3
returns-in-3 c =
    let a = c.args in
    made_text (string_table a.bytes.now a.ends.now)
    a.schema.now a.alone.now a.nothing.now a.p
    (sym c.kind-kind.ensures ∙ c.in-3.is) c.fill_same.ensures

pub returns-in-4 : goal.returns-in-4
returns-in-4 c =
    let a = c.args in
    made_data (string_table a.bytes.now a.ends.now) a.schema.now a.alone.now
    a.nothing.now a.p c.field_a-a.ensures c.field_b-b.ensures
    (sym c.kind-kind.ensures ∙ c.in-4.is) c.fill_data.ensures

pub returns-in-5 : goal.returns-in-5
returns-in-5 c =
    c.fill_value.ensures
    c.args.nothing.now
    (sym c.kind-kind.ensures ∙ c.in-5.is)

pub returns-in-6 : goal.returns-in-6
returns-in-6 c =
    let a = c.args in
    made_list (string_table a.bytes.now a.ends.now) a.schema.now a.alone.now
    a.nothing.now a.p c.field_a-a.ensures c.field_b-b.ensures
    (sym c.kind-kind.ensures ∙ c.in-6.is) c.fill_list.ensures

pub returns-in-9 : goal.returns-in-9
returns-in-9 c =
    let a = c.args in
    made_one_or_more (string_table a.bytes.now a.ends.now) a.schema.now a.alone.now
    a.nothing.now a.p c.field_a-a.ensures c.field_b-b.ensures
    (sym c.kind-kind.ensures ∙ c.in-9.is) c.fill_either.ensures

pub returns-in-10 : goal.returns-in-10
returns-in-10 c =
    let a = c.args in
    made_choice (string_table a.bytes.now a.ends.now) a.schema.now a.alone.now
    a.nothing.now a.p c.field_a-a.ensures c.field_b-b.ensures
    (sym c.kind-kind.ensures ∙ c.in-10.is) c.fill_either-in-10.ensures

pub returns-in-11 : goal.returns-in-11
returns-in-11 c =
    let a = c.args in
    made_group (string_table a.bytes.now a.ends.now) a.schema.now a.alone.now
    a.nothing.now a.p c.field_a-a.ensures c.field_b-b.ensures
    (sym c.kind-kind.ensures ∙ c.in-11.is) c.fill_one.ensures

pub returns-in-12 : goal.returns-in-12
returns-in-12 c =
    let a = c.args in
    made_interleave (string_table a.bytes.now a.ends.now) a.schema.now a.alone.now
    a.nothing.now a.p c.field_a-a.ensures c.field_b-b.ensures
    (sym c.kind-kind.ensures ∙ c.in-12.is) c.fill_one-in-12.ensures

pub returns-in_default : goal.returns-in_default
returns-in_default c =
    let a = c.args in
    made_rest (string_table a.bytes.now a.ends.now) a.schema.now a.alone.now a.nothing.now
    a.p (record {
      no_text = (λ e. c.in_default.in_default-own.rest.0.0.0.0.0.0.0.1 (c.kind-kind.ensures ∙ e));
      no_repeat = (λ e. c.in_default.in_default-own.rest.0.0.0.1 (c.kind-kind.ensures ∙ e));
      no_choice = (λ e. c.in_default.in_default-own.rest.0.0.1 (c.kind-kind.ensures ∙ e));
      no_group = (λ e. c.in_default.in_default-own.rest.0.1 (c.kind-kind.ensures ∙ e));
      no_interleave = (λ e. c.in_default.in_default-own.rest.1 (c.kind-kind.ensures ∙ e));
    }) (λ e. c.in_default.in_default-own.rest.0.0.0.0.0.0.1 (c.kind-kind.ensures ∙ e))
    (λ e. c.in_default.in_default-own.rest.0.0.0.0.0.1 (c.kind-kind.ensures ∙ e))
    (λ e. c.in_default.in_default-own.rest.0.0.0.0.1 (c.kind-kind.ensures ∙ e)) c.fill_same-in_default.ensures

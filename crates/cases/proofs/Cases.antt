-- The cases of FORMAT, "Cases", hold of the definitions.
use mathlib.Core.Path.{◌≡◌, refl}
use mathlib.Core.Bool.{true}
use Rattle.datatypes.specs.Whitespace.{space}
use Rattle.schema.specs.Falling.{upto}
use Rattle.schema.specs.Rows.{shape_of}
use Rattle.schema.specs.RowRule.{uses_before}
use Rattle.schema.specs.Views.{pattern_by, class_by}
use Rattle.schema_classes.specs.Membership as class
use Rattle.instance.specs.Elements.{rows_where}
use Rattle.instance.specs.NodeRule.{fields_right}
use Rattle.instance.specs.Width.{how_many}
use Rattle.schema_sequences.specs.TypeTable.{type_by, clash_by}
use Rattle.matching_rules.specs.Spans.{run}
use Rattle.cases.specs.Meaning.{AllHold}
use Rattle.cases.specs.Table.{table}
use Rattle.cases.proofs.Tests.{every_below, some_below}
use Rattle.cases.proofs.StringTests.{strings_test}
use Rattle.cases.proofs.DescentTests.{child_test, inside_test}
use Rattle.cases.proofs.PlaceTests.{rows_test, none_below, places_test, names_test, paths_test}
use Rattle.cases.proofs.ContentTests.{type_below, clash_test, in_list_test, sequence_test}
use Rattle.cases.proofs.ClassTests.{meet_test, least_test}
use Rattle.cases.proofs.RestrictionTests.{shared_test, attributes_test, interleave_test}
use Rattle.cases.proofs.SchemaVerdicts.{pass_test, refused_test}
use Rattle.cases.proofs.InstanceTests.{up_test, parent_test, nodes_test, width_test}
use Rattle.cases.proofs.ReachTests.{reach_test}
use Rattle.cases.proofs.ClosureTests.{plus_test}
use Rattle.cases.proofs.Model.{span_test}
use Rattle.cases.proofs.PairTests.{pair_test, valid_test}
use Rattle.cases.proofs.Checked.{check, check_all, all_checked}

-- every row of the table succeeds, by computation
checked : check_all table ≡ true
unfolding space upto shape_of uses_before pattern_by class_by class.holds rows_where fields_right how_many type_by
    clash_by
    run every_below some_below strings_test child_test inside_test rows_test none_below places_test names_test
    paths_test
    type_below clash_test in_list_test sequence_test meet_test least_test shared_test attributes_test interleave_test
    pass_test refused_test up_test parent_test nodes_test width_test reach_test plus_test span_test pair_test valid_test
    check
checked = refl

pub all_hold : AllHold table
all_hold = all_checked table checked

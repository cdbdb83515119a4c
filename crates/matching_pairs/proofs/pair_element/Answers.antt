-- What is known of the element is what the functions of `contents` tell, and its items stand for its content.
use mathlib.Core.Path.{◌∙◌}
use native.Mathlib.Omega.{arith}
use Rattle.matching_pairs.proofs.Entries.{nodes_few, few_attributes, few_items, know}
use Rattle.matching_pairs.proofs.pair_element.Goals as goal

pub attributes-attributes-requires : goal.attributes-attributes-requires
attributes-attributes-requires c =
    let q = c.requires in
    let n = q.1 in
    let few = nodes_few n.filling.pass in
    let row = n.row in
    omega arith

pub up_to-a-requires : goal.up_to-a-requires
up_to-a-requires c =
    let q = c.requires in
    let n = q.1 in
    let few = few_attributes n.filling n.row q.2 c.attributes-attributes.ensures in
    omega arith

pub children-n-requires : goal.children-n-requires
children-n-requires c =
    let n = c.requires.1 in
    record { strings = _; right = n.filling.pass.nodes; row = n.row }

pub of_kind-texts-requires : goal.of_kind-texts-requires
of_kind-texts-requires c =
    let q = c.requires in
    let n = q.1 in
    few_items n.filling n.row q.2 c.children-n.ensures

pub of_kind-elements-requires : goal.of_kind-elements-requires
of_kind-elements-requires c =
    let q = c.requires in
    let n = q.1 in
    few_items n.filling n.row q.2 c.children-n.ensures

pub content_of-content-requires : goal.content_of-content-requires
content_of-content-requires c =
    let q = c.requires in
    let n = q.1 in
    let x = c.items-1.given in
    let y = c.items-2-1.given in
    let room = n.room_items in
    (few_items n.filling n.row q.2 c.children-n.ensures, omega arith)

pub first_items-requires : goal.first_items-requires
first_items-requires c =
    let q = c.requires in
    let n = q.1 in
    let room = n.room_items in
    let x = c.items-1.given in
    let y = c.items-2-1.given in
    let z = c.items-3-1.given in
    let few = c.content_of-content.ensures.few in
    omega arith

pub pair_row-requires : goal.pair_row-requires
pair_row-requires c =
    let q = c.requires in
    let n = q.1 in
    let rows = nodes_few n.filling.pass in
    let row = n.row in
    let room = n.room_items in
    let known = know n.filling n.row q.2 c.attributes-attributes.ensures
    c.up_to-a.ensures (omega arith) c.children-n.ensures c.to_items.ensures
    c.of_kind-texts.ensures c.of_kind-elements.ensures in
    let ready = c.content_of-content.ensures.ready _ _ _ _ _ _ _ known in (
      q.0,
      record {
        strings = n.strings;
        ready = rw c.first_items.ensures ready;
        element = q.2;
        room = n.room;
        row = omega arith;
      },
      q.3,
    )

pub shape_of-items : goal.shape_of-items
shape_of-items c = c.items-3-1.given ∙ c.items-2-1.given ∙ c.items-1.given

pub returns : goal.returns
returns c =
    λ T f.
    let q = c.requires in
    let n = q.1 in
    let room = n.room_items in
    let known = know f n.row q.2 c.attributes-attributes.ensures
    c.up_to-a.ensures (omega arith) c.children-n.ensures c.to_items.ensures
    c.of_kind-texts.ensures c.of_kind-elements.ensures in
    let ready = c.content_of-content.ensures.ready _ _ _ _ _ _ _ known in
    c.pair_row.ensures T (rw c.first_items.ensures ready)

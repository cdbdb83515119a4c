-- A wrong size comes first; with the right size only rows can be wrong.
use Rattle.tables.proofs.Checks.{found_none, found_first, finds_same}
use Rattle.instance.specs.NodeRule.{bad_node}
use Rattle.instance.proofs.Size.{few_nodes, only_nodes, first_bad_size}
use Rattle.instance_nodes.proofs.check_nodes.Goals as goal

pub returns-in_err-check_size : goal.returns-in_err-check_size
returns-in_err-check_size c =
    found_first _ _ c.check_size.ensures c.in_err-check_size.was c.from_residual.ensures.1 first_bad_size

pub first_wrong_node-requires : goal.first_wrong_node-requires
first_wrong_node-requires c = few_nodes (found_none _ c.check_size.ensures c.in_ok-check_size.was)

pub returns : goal.returns
returns c =
    let right = found_none _ c.check_size.ensures c.in_ok-check_size.was in
    finds_same c.first_wrong_node.result (λ r f. bad_node f.0 f.1)
    (only_nodes right) c.first_wrong_node.ensures

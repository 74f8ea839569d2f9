-- `build::build_table` meets its contract: the tree, and a header that says so.
use Rattle.build.proofs.Laid.{table-ready, header-ready, rebuilt}
use Rattle.build.proofs.build_table.Goals as goal

pub build-root-requires : goal.build-root-requires
build-root-requires c = let p = c.requires in table-ready _ _ _ p.0 p.1 p.2 _ c.shape_of-fans.ensures

pub write_header-requires : goal.write_header-requires
write_header-requires c =
    let p = c.requires in
    let a = c.args in
    header-ready a.t.now a.list.now a.n p.0 p.1 p.2 c.shape_of-fans.result c.shape_of-fans.ensures {u = c.build-root.new.t} c.build-root.ensures.0.sized c.nodes_of-last.ensures.0

pub returns : goal.returns
returns c =
    let p = c.requires in
    rebuilt _ _ _ p.0 p.1 p.2 _ c.shape_of-fans.ensures c.nodes_of-last.ensures.0 c.build-root.ensures.0 c.write_header.ensures

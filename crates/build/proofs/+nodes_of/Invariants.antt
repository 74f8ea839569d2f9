-- `build::nodes_of` meets its contract. The measure is the height.
use Rattle.build.proofs.+nodes_of.Given as goal

abbrev pub decreases-nodes_of : goal.decreases-nodes_of
decreases-nodes_of l = l.height

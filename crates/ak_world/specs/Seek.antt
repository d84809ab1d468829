-- Nodes of which one at most is sought.
use Rattle.std.specs.Prelude.{◌≡◌, ℕ, Bool, List, slice_get, Some, IsTrue}
use Rattle.ak_node.specs.NodeContracts.{NodeModel}

-- one at most of the nodes passes the test
abbrev pub OneAtMost : (NodeModel → Bool) → List NodeModel → Type 0
OneAtMost test nodes = (i j : ℕ) (n m : NodeModel) → slice_get nodes i ≡ Some n → slice_get nodes j ≡ Some m → IsTrue (test n) → IsTrue (test m) → i ≡ j

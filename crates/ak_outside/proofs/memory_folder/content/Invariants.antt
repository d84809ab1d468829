use Rattle.std.proofs.Common.{◌≡◌, drop}
use Rattle.ak_outside.specs.Folder.{content}
use Rattle.ak_outside.proofs.memory_folder.content.Given as goal

abbrev pub invariant-files : goal.invariant-files
invariant-files l = content l.name l.files ≡ content l.name (drop l.file-index l.files)

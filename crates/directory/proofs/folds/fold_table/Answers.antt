-- `fold_table` meets its contract: one test that antt computes over the whole table. Assumes nothing.
use mathlib.Core.Path.{refl}
use Rattle.model.specs.Lists.{every, first, from}
use Rattle.model.specs.Directory.{letters, accents, pairs}
use Rattle.directory.specs.declared.folds.TheConstants.{FOLD}
use Rattle.directory.specs.Folding.{fold, Folds, FoldsTwice, FoldsEqual}
use Rattle.directory.proofs.Folding.{folds_all}
use Rattle.directory.proofs.folds.fold_table.Goals as goal

all : Folds FOLD × FoldsTwice FOLD × FoldsEqual FOLD
unfolding every first from fold letters accents pairs
all = folds_all FOLD refl

pub returns : goal.returns
returns c = record { folds = all.0; folds_twice = all.1; folds_equal = all.2 }

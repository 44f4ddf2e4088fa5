-- What values of the code say.
use Rattle.std.specs.Prelude.{◌≡◌, ◌^◌, ◌<◌}
use Rattle.signature_defs.specs.Lms.{lms_public_key, lms_signature}
use Rattle.signature_defs.specs.Hss.{hss_public_key, hss_signature}
use Rattle.lms_tree.specs.declared.key.LmsKey.{LmsKey}
use Rattle.lms_tree.specs.Key as tree_key
use Rattle.lms_hss.specs.declared.key.HssKey.{HssKey}
use Rattle.lms_hss.specs.Key as level_key
use Rattle.interop_signatures.specs.Trees.{TreeSigning}
use Rattle.interop_signatures.specs.Levels.{IsMade, LevelSigning, secret}
use Rattle.interop_signatures.specs.declared.trees.TreeSigning as trees
use Rattle.interop_signatures.specs.declared.levels.LevelSigning as levels

abbrev pub tree_signing : trees.TreeSigning → TreeSigning
tree_signing s = record {
  typecode = s.typecode;
  height = s.height;
  ots = s.ots;
  id = s.id;
  seed = s.seed;
  leaf = s.leaf;
  body = s.body.items;
}

abbrev pub level_signing : levels.LevelSigning → LevelSigning
level_signing s = record {
  levels = s.levels;
  typecode = s.typecode;
  ots = s.ots;
  id = s.id;
  seed = s.seed;
  number = s.number;
  body = s.body.items;
}

-- the key is that of the asked tree, and its next signature is the asked leaf's
pub record IsTreeReady (s : TreeSigning) (key : LmsKey) : Type 0 where
  pub public : tree_key.public_of key ≡ lms_public_key s.typecode s.ots s.height s.id s.seed
  pub next : tree_key.signature_of key key.used s.body ≡ lms_signature s.typecode s.ots s.height s.id s.seed s.leaf s.body
  pub unspent : key.used < 2 ^ key.tree.height

-- the key of levels is the asked one, and its next signature is that of the asked number
pub record IsLevelsReady (s : LevelSigning) (key : HssKey) : Type 0 where
  pub made : IsMade s
  pub public : level_key.public_of key ≡ hss_public_key (secret s)
  pub next : level_key.signature_of key key.used s.body ≡ hss_signature (secret s) s.number s.body
  pub unspent : key.used < level_key.total_of key

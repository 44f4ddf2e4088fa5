-- What a key's trees are made from, as the definitions have it.
use Rattle.std.specs.Prelude.{◌≡◌, ℕ, List}
use Rattle.signature_defs.specs.declared.OtsType.{OtsType}
use Rattle.signature_defs.specs.Hss.{HssSecret}
use Rattle.lms_hss.specs.declared.plan.Plan.{Plan}

abbrev pub secret : Plan → HssSecret
secret plan = record { levels = plan.levels; code = plan.typecode; kind = plan.ots; h = plan.height; id = plan.id; seed = plan.seed }

-- the plan of these
pub record IsPlanOf (levels typecode : ℕ) (ots : OtsType) (id seed : List ℕ) (plan : Plan) : Type 0 where
  pub has_levels : plan.levels ≡ levels
  pub has_typecode : plan.typecode ≡ typecode
  pub has_ots : plan.ots ≡ ots
  pub has_id : plan.id ≡ id
  pub has_seed : plan.seed ≡ seed

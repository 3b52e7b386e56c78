use Rattle.ls_skill.proofs.Skilled.{any-spanned, any-compat, any-IsFamily, any-space}
use Rattle.ls_skill.proofs.Skilled.{all-complements}
use Rattle.ls_skill.proofs.skills.skills_make_unions.Goals as goal

pub returns : goal.returns
returns c =
    record {
      any = any-spanned;
      compatible = any-compat;
      family = any-IsFamily;
      space = any-space;
      all =
          all-complements;
    }

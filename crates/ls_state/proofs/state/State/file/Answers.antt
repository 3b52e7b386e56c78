use Rattle.ls_state.proofs.Vocabulary.{Calls, Effect, FileCommand, Session, file_effect, in_domain}
use Rattle.ls_state.proofs.Decided.{decides_at}
use Rattle.ls_state.proofs.state.State.file.Goals as goal

abbrev effect : Session → FileCommand → Calls → Effect
effect s c calls = in_domain s (file_effect s calls c)

pub returns-in-StartSurmise : goal.returns-in-StartSurmise
returns-in-StartSurmise g c = decides_at (effect c.args.self.now) c.in-StartSurmise.is c.load_start.ensures

pub returns-in-StartBase : goal.returns-in-StartBase
returns-in-StartBase g c = decides_at (effect c.args.self.now) c.in-StartBase.is c.load_start-in-StartBase.ensures

pub returns-in-Test : goal.returns-in-Test
returns-in-Test g c = decides_at (effect c.args.self.now) c.in-Test.is c.test.ensures

pub returns-in-Class : goal.returns-in-Class
returns-in-Class g c = decides_at (effect c.args.self.now) c.in-Class.is c.class.ensures

pub returns-in-Save : goal.returns-in-Save
returns-in-Save g c = decides_at (effect c.args.self.now) c.in-Save.is c.save.ensures

pub returns-in-StartRelation : goal.returns-in-StartRelation
returns-in-StartRelation g c = decides_at (effect c.args.self.now) c.in-StartRelation.is c.load_start-in-StartRelation.ensures

pub returns-in-SkillsAny : goal.returns-in-SkillsAny
returns-in-SkillsAny g c = decides_at (effect c.args.self.now) c.in-SkillsAny.is c.skills.ensures

pub returns-in-SkillsAll : goal.returns-in-SkillsAll
returns-in-SkillsAll g c = decides_at (effect c.args.self.now) c.in-SkillsAll.is c.skills-in-SkillsAll.ensures

pub returns-in-Mesh : goal.returns-in-Mesh
returns-in-Mesh g c = decides_at (effect c.args.self.now) c.in-Mesh.is c.mesh.ensures

pub returns-in-MeshAgree : goal.returns-in-MeshAgree
returns-in-MeshAgree g c = decides_at (effect c.args.self.now) c.in-MeshAgree.is c.mesh_agree.ensures

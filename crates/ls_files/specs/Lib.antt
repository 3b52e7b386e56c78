pub mod SetFiles
pub mod SurmiseFiles
pub mod ClassTables
pub mod ClassResults
pub mod SkillFiles
pub mod PairFiles
pub mod Sessions
pub mod Standing
pub mod Codecs
pub mod SessionCodecs
pub mod SessionFiles
unfoldable pub use Rattle.ls_files.specs.SessionFiles.{session_from, session_of, session_text}
pub use Rattle.ls_files.specs.Sessions.{Pupil, Session, most_pupils}
pub use Rattle.ls_files.specs.Standing.{are_apart, are_made, are_pupils, follow, is_asked, is_base}
unfoldable pub use Rattle.ls_files.specs.Standing.{is_pupil, stands}

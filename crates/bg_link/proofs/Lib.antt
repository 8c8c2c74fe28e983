pub mod PortLaws
pub mod RankLaws
pub mod PointLaws
pub mod GroupLaws
pub mod WholeLaws
pub mod AbsentLaws

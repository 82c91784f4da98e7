mod Tiny
mod Examples
pub mod SameLaws
pub mod NetLaws
pub mod OutcomeLaws
pub mod TickLaws
pub mod MapLaws
pub mod FreshLaws
pub mod RunningLaws
pub mod StillLaws
pub mod InstanceLaws
pub mod ResolveLaws
pub mod WorldLaws
pub mod SinceLaws
pub mod GoodLaws
pub mod WholeLaws
pub mod EditLaws
pub mod ApartLaws

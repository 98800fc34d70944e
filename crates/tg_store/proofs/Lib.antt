pub mod Weighed
pub mod RunningSeats
pub mod RunningSessions
pub mod Agreeing
